mod Places
mod Named
