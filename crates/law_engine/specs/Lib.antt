pub mod WayRound
