mod Refusals
mod GraftedListings
mod AllEdges
