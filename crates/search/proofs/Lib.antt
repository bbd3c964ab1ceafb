mod Seeks
mod Ends
