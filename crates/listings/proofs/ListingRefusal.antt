-- A listing as it is judged: what is due counts only where the leaf count is right; and what holds of a listing that is
-- not refused.
use mathlib.Core.Path.{◌≡◌, refl, ap, ◌∙◌}
use mathlib.Core.List.{List, [], ◌∷◌}
use mathlib.Core.Option.{none}
use Prim.Native.Nat.{ℕ, ◌-◌, ◌*◌, ◌≤◌}
use lib.ListN.{length}
use Rattle.limits.specs.declared.Kind.TheVariants.{Counts}
use Rattle.limits.specs.Limits.{IsLeafCount}
use Rattle.refusals.specs.Refusals.{judged}
use Rattle.refusals.proofs.Answers.{judged_none, judged_passes, judged_alone}
use Rattle.trees.specs.Listings.{rules_refusal, KeepsRules}
use Rattle.checks.specs.Sizes.{sizes_refusal}
use Rattle.checks.proofs.Sizes.{sizes_due, sizes_right, sizes_pass}
use Rattle.listings.specs.Operations.{listing_refusal}

module _ (n : ℕ) (l : List ℕ) (due room : ℕ) where
  -- what the code works out as due counts only where the leaf count is right
  pub listing_as_due :
      (d : ℕ) → (IsLeafCount n → d ≡ due) → listing_refusal n l d room ≡ listing_refusal n l due room
  unfolding listing_refusal
  listing_as_due d h =
      ap (λ o. judged (o ∷ rules_refusal n l ∷ []))
      (sizes_due Counts n _ (length l) d room (2 * (n - 2)) due (λ c. (refl, h c)))

  -- where 1, 2 and 3 do not arise, the rules decide
  pub rules_left :
      IsLeafCount n → length l ≡ 2 * (n - 2) → due ≤ room → listing_refusal n l due room ≡ rules_refusal n l
  unfolding listing_refusal
  rules_left c e m =
      let sizes = sizes_pass Counts n _ _ due room (record { count = c; long = e; enough = m }) in
      judged_passes _ sizes ∙ judged_alone (rules_refusal n l)

  -- what is not refused
  pub record Accepted : Type 0 where
    pub count : IsLeafCount n
    pub keeps : KeepsRules n l
    pub room_enough : due ≤ room

  pub accepted_listing : listing_refusal n l due room ≡ none → Accepted
  unfolding listing_refusal
  accepted_listing h =
      let a = judged_none (sizes_refusal Counts n (2 * (n - 2)) (length l) due room) _ h in
      let b = judged_none (rules_refusal n l) _ a.1 in
      let w = sizes_right Counts n _ (length l) due room a.0 in
      record { count = w.count; keeps = record { numbers = w.long; rules = b.0 }; room_enough = w.enough }
