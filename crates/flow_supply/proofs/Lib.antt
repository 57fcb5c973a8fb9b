mod Places
mod Making
mod Options
mod Supplying
