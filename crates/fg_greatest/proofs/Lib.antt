mod Greatests
mod Opened
