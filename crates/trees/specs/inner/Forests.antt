-- The rules of a listing, row by row: which leaves and nodes no row has named yet, and rows that join two of them.
-- For listings that are being written: `rules_refusal` says the same of a whole one, place by place.
use Rattle.std.specs.Prelude.{Bool, true, false, not, ◌&&◌, ◌||◌, List, [], ◌∷◌, ℕ, suc, ltb, eqb}

-- the items not yet used, at first: the leaves but 0
unfoldable pub unused : ℕ → ℕ → Bool
unused n k = ltb 0 k && ltb k n

-- and after the row a b of node r
unfoldable pub use_row : (ℕ → Bool) → ℕ → ℕ → ℕ → ℕ → Bool
use_row live r a b k = eqb k r || ((live k && not (eqb k a)) && not (eqb k b))

-- and after some rows, the first of which is node r's
unfoldable pub uses : (ℕ → Bool) → ℕ → List ℕ → ℕ → Bool
uses live r [] = live
uses live r (a ∷ []) = live
uses live r (a ∷ b ∷ l) = uses (use_row live r a b) (suc r) l

-- each row joins two different items that are not yet used: the rules, row by row
unfoldable pub lawful : (ℕ → Bool) → ℕ → List ℕ → Bool
lawful live r [] = true
lawful live r (a ∷ []) = false
lawful live r (a ∷ b ∷ l) = (live a && (live b && not (eqb a b))) && lawful (use_row live r a b) (suc r) l
