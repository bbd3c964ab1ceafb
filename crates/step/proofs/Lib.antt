mod Fetching
mod Frames
mod Going
mod Laws
mod Sights
mod Trapping
