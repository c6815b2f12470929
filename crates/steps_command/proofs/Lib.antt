mod Ends
mod Leads
mod Moved
mod Runs
