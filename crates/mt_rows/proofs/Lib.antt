mod Places
mod Changed
mod ByRow
mod NullEnds
mod Examples
