mod Ending
mod Joining
mod Lasting
mod Runs
