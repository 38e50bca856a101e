mod NamingLines
pub mod Reports
