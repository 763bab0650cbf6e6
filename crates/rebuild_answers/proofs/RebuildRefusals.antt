-- A rebuild as it is judged, of a packed table and a guided one: what the code works out as due, and what holds where
-- nothing is refused.
use mathlib.Core.Path.{◌≡◌, ◌∙◌}
use mathlib.Core.List.{List}
use mathlib.Core.Option.{none}
use Prim.Native.Nat.{ℕ, ◌-◌, ◌*◌, ◌/◌, ◌≤◌}
use native.Mathlib.Omega.{arith}
use lib.ListN.{length}
use Rattle.base.proofs.Lists.{length_tab}
use Rattle.limits.specs.declared.Kind.{Kind}
use Rattle.limits.specs.declared.Kind.TheVariants.{Counts}
use Rattle.limits.specs.Limits.{IsLeafCount}
use Rattle.refusals.proofs.Answers.{judged_none}
use Rattle.checks.specs.Sizes.{input_refusal, sizes_refusal}
use Rattle.checks.proofs.Sizes.{RightSizes, input_right, sizes_right, sizes_pass, sizes_due}
use Rattle.table_checks.specs.Operations.{table_refusal}
use Rattle.rebuild_answers.specs.Operations.{packed_refusal, proposals, guided_refusal}

module _ (n : ℕ) (B : List ℕ) (room : ℕ) where
  pub packed_as_due :
      (due result : ℕ) → (IsLeafCount n → due ≡ n * (n - 1)) → (IsLeafCount n → result ≡ 2 * (n - 2))
      → sizes_refusal Counts n due (length B) result room ≡ packed_refusal n B room
  unfolding packed_refusal
  packed_as_due due result e e' = sizes_due Counts n due (length B) result room _ _ (λ c. (e c, e' c))

  pub packed_right :
      packed_refusal n B room ≡ none → RightSizes Counts n (n * (n - 1)) (length B) (2 * (n - 2)) room
  unfolding packed_refusal
  packed_right h = sizes_right Counts n _ (length B) _ room h

  pub none_refused : IsLeafCount n → length B ≡ n * (n - 1) → 2 * (n - 2) ≤ room → packed_refusal n B room ≡ none
  unfolding packed_refusal
  none_refused c e l = sizes_pass Counts n _ _ _ room (record { count = c; long = e; enough = l })

module _ (kind : Kind) (n : ℕ) (t p : List ℕ) (room : ℕ) where
  -- the sizes are right, and nothing of the table is refused
  pub guided_sizes :
      guided_refusal kind n t p room ≡ none
      → (length p ≡ 2 * (n - 1)) × (table_refusal kind n t (2 * (n - 2)) room ≡ none)
  unfolding guided_refusal
  guided_sizes h =
      let a = judged_none (input_refusal kind n (2 * (n - 1)) (length p)) _ h in
      let b = judged_none (table_refusal kind n t (2 * (n - 2)) room) _ a.1 in
      ((input_right kind n (2 * (n - 1)) (length p) a.0).1, b.0)

-- as many proposals as there are merges
pub many_proposals : (n : ℕ) (l : List ℕ) → length l ≡ 2 * (n - 1) → length (proposals l) ≡ n - 1
unfolding proposals
many_proposals n l e = length_tab (length l / 2) _ ∙ omega arith
