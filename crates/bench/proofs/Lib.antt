mod Words
mod Cases
