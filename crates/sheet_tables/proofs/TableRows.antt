-- Rows of a table one after the other: a buffer that is filled up to a row, and then with it.
use mathlib.Core.Path.{◌≡◌, ap, sym, ◌∙◌}
use mathlib.Core.List.{List, ◌++◌, append_assoc, append-nil}
use Prim.Native.Nat.{ℕ, zero, suc, ◌+◌, ◌≤◌, ◌<◌}
use native.Mathlib.Nat.{add-zero, add-suc}
use lib.ListN.{length, take, drop, take-append-drop}
use lib.Seq.{drop-append-le, take_at, drop_at, drop-drop}
use Rattle.base.specs.Lists.{tab, filled}
use Rattle.base.proofs.Lists.{length_tab, tab_same}

tab_add : {A : Type 0} (a m : ℕ) (f : ℕ → A) → tab (a + m) f ≡ tab a f ++ tab m (λ j. f (a + j))
unfolding tab
tab_add a zero f = rw (add-zero a) (sym (append-nil (tab a f)))
tab_add a (suc m) f = rw (add-suc a m, tab_add a m f) (append_assoc (tab a f) (tab m (λ j. f (a + j))) _)

-- a buffer that is filled up to the place a, and then a part of it from there on, by a rule that goes on with the first
module _ {A : Type 0} (a m k : ℕ) (f g : ℕ → A) (base xs : List A) where
  -- the part, and what lies behind it
  abbrev part : List A
  part = take k (drop a xs)

  abbrev rest : List A
  rest = drop k (drop a xs)

  behind : m ≤ length part → drop m part ++ rest ≡ drop m (drop a xs)
  behind h = sym (drop-append-le m part rest h) ∙ ap (drop m) (take-append-drop k (drop a xs))

  pub filled_on :
      xs ≡ filled a f base → m ≤ length part → ((j : ℕ) → j < m → g j ≡ f (a + j))
      → take a xs ++ (filled m g part ++ rest) ≡ filled (a + m) f base
  unfolding filled
  filled_on e h same =
      let front = take_at (tab a f) (drop a base) a (length_tab a f) in
      let back = drop_at (tab a f) (drop a base) a (length_tab a f) in
      rw (
        append_assoc (tab m g) (drop m part) rest,
        behind h,
        e,
        front,
        back,
        drop-drop m a base,
        tab_same m g (λ j. f (a + j)) same,
        tab_add a m f,
        append_assoc (tab a f) (tab m (λ j. f (a + j))) (drop (a + m) base),
      )
