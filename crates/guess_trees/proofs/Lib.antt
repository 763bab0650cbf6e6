mod Listings
