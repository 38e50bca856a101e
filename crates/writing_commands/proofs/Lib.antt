mod Costs
mod MadeItems
mod MadeVaults
mod Makings
mod RekeyedVaults
mod Rows
mod StoredFiles
