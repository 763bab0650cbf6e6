mod Proposals
