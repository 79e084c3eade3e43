pub mod Calls
pub mod Replay
pub mod Gave
pub mod Host
pub mod HostList
pub mod HostDemands
pub mod HostReplay
