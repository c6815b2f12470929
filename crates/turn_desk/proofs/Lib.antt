mod Totals
mod Lists
mod Standing
mod Turning
mod Seating
mod Closing
