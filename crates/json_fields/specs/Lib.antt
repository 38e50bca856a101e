-- The fields of JSON objects.
pub mod Base64
pub mod Json
pub mod Fields
pub mod Views
