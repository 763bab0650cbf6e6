-- How many leaves a tree has (01, "Trees and listings"): n from 3 to 128. The upper limit is named here and only here,
-- and beside it the sizes that follow from it. The code has the same names, in src/lib.rt: a size that differed there
-- would leave functions unproved.
use Rattle.std.specs.Prelude.{cond, ℕ, ◌+◌, ◌-◌, ◌*◌, ◌/◌, ◌≤◌, eqb}
use Rattle.limits.specs.declared.Kind.{Kind}
use Rattle.limits.specs.declared.Kind.TheVariants.{Counts, Poll}

abbrev pub most_leaves : ℕ
most_leaves = 128

abbrev pub IsLeafCount : ℕ → Type 0
IsLeafCount n = (3 ≤ n) × (n ≤ most_leaves)

-- the sizes that a set of leaves may have are 0 to the most leaves: so many
abbrev pub leaf_counts : ℕ
leaf_counts = most_leaves + 1

-- an array by number has a place for each leaf and each node of a listing: two more than the 2n − 2 that are due
abbrev pub most_nodes : ℕ
most_nodes = 2 * most_leaves

-- the rows of the longest listing, and its numbers
abbrev pub most_rows : ℕ
most_rows = most_leaves - 2

abbrev pub most_numbers : ℕ
most_numbers = 2 * most_rows

-- the cells of the largest table
abbrev pub most_cells : ℕ
most_cells = most_leaves * most_leaves

-- the pairs of the most leaves, P(n), which no count and no sum along a path exceeds
abbrev pub most_pairs : ℕ
most_pairs = most_leaves * (most_leaves - 1) / 2

-- the largest cell that a tree can have, P(n − 2)
abbrev pub largest_cell : ℕ
largest_cell = most_rows * (most_rows - 1) / 2

-- the words of 64 bits of a leaf set, a bit for each of the most leaves; and its bytes, those of whole words
abbrev pub set_words : ℕ
set_words = (most_leaves + 63) / 64

abbrev pub set_bytes : ℕ
set_bytes = 8 * set_words

-- a poll has 4 to 32 leaves, and so many cells at most
abbrev pub fewest_polled : ℕ
fewest_polled = 4

abbrev pub most_polled : ℕ
most_polled = 32

abbrev pub most_poll_cells : ℕ
most_poll_cells = most_polled * most_polled

-- the fewest and the most leaves of a table of this kind, a tree's counts or a poll's
abbrev pub fewest_of : Kind → ℕ
fewest_of Counts = 3
fewest_of Poll = fewest_polled

abbrev pub most_of : Kind → ℕ
most_of Counts = most_leaves
most_of Poll = most_polled

abbrev pub IsCountOf : Kind → ℕ → Type 0
IsCountOf kind n = (fewest_of kind ≤ n) × (n ≤ most_of kind)

-- the scale of a table of this kind: a tree has it when each cell is so many times its own; a poll's are sixths
abbrev pub scale_of : Kind → ℕ
scale_of Counts = 1
scale_of Poll = 6

-- the largest scale
abbrev pub most_scale : ℕ
most_scale = scale_of Poll

-- the largest cell that a tree can have in a table of this kind: P(n − 2) for the most leaves, at its scale
abbrev pub largest_cell_of : Kind → ℕ
largest_cell_of kind = scale_of kind * ((most_of kind - 2) * (most_of kind - 3) / 2)

-- the kind that a caller from C names: 0 for counts, any other number for a poll's
unfoldable pub kind_of : ℕ → Kind
kind_of poll = cond (eqb poll 0) Counts Poll
