mod WeightsKept
mod SpreadTotals
mod AllTotals
