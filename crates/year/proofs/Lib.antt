mod Dates
mod Closing
mod Decided
mod Main
mod Replays
