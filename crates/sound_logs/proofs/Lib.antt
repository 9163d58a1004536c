mod Listed
mod NoFaults
mod Logs
