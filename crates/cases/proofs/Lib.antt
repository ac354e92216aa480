mod Proved
mod OnRigs
