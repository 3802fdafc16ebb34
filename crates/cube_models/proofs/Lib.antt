mod Ways
mod Searches
mod Said
mod Downs
mod Denied
mod Refuted
mod Summed
mod Stated
