mod OptionsRead
mod ValuesRead
mod WrittenCommands
mod WrittenNumbers
mod WrittenValues
