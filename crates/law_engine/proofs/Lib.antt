mod WayRound
