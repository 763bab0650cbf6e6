-- Two lent sets and the room for a third: what is refused where one does not fit, that nothing is where all fit, and
-- what fits where nothing is refused.
use Rattle.std.specs.Prelude.{Ok, Err}
use mathlib.Core.Path.{◌≡◌, sym, ◌∙◌}
use mathlib.Core.List.{List}
use mathlib.Core.Option.{none, some}
use Prim.Native.Nat.{ℕ, ◌≤◌, ◌<◌}
use lib.ListN.{length}
use Rattle.limits.specs.Limits.{set_bytes}
use Rattle.refusals.specs.declared.Refusal.{Refusal}
use Rattle.refusals.specs.declared.Refusal.TheVariants.{OutputRoom}
use Rattle.refusals.proofs.Answers.{judged_stops, judged_passes, judged_none, judged_alone}
use Rattle.checks.specs.Sizes.{length_refusal, by_value}
use Rattle.checks.proofs.Sizes.{length_right, value_right, value_wrong, room_stops, room_passes, room_right}
use Rattle.lent_sets.specs.Operations.{pair_refusal, sets_refusal}

module _ (a b : ℕ) where
  pub first_off : {r : Refusal} → length_refusal set_bytes a ≡ some r → pair_refusal a b ≡ some r
  unfolding pair_refusal
  first_off h = judged_stops _ h

  module _ (first : length_refusal set_bytes a ≡ none) where
    pub second_off : {r : Refusal} → length_refusal set_bytes b ≡ some r → pair_refusal a b ≡ some r
    unfolding pair_refusal
    second_off h = judged_passes _ first ∙ judged_stops _ h

    pub both_fit : length_refusal set_bytes b ≡ none → pair_refusal a b ≡ none
    unfolding pair_refusal
    both_fit h = judged_passes _ first ∙ judged_alone _ ∙ h

  module _ (room : ℕ) where
    pub pair_off : {r : Refusal} → pair_refusal a b ≡ some r → sets_refusal a b room ≡ some r
    unfolding sets_refusal
    pair_off h = judged_stops _ h

    pub room_short : pair_refusal a b ≡ none → room < set_bytes → sets_refusal a b room ≡ some OutputRoom
    unfolding sets_refusal
    room_short h l = judged_passes _ h ∙ judged_stops _ (room_stops _ _ l)

    pub all_fit : pair_refusal a b ≡ none → set_bytes ≤ room → sets_refusal a b room ≡ none
    unfolding sets_refusal
    all_fit h l = judged_passes _ h ∙ judged_alone _ ∙ room_passes _ _ l

-- the same of two lists, from what is said of each by value
module _ (a b : List ℕ) where
  pub first_wrong : {r : Refusal} → Err r ≡ by_value set_bytes a → pair_refusal (length a) (length b) ≡ some r
  first_wrong h = first_off _ _ (value_wrong set_bytes a h)

  module _ {x : List ℕ} (first : Ok x ≡ by_value set_bytes a) where
    pub second_wrong : {r : Refusal} → Err r ≡ by_value set_bytes b → pair_refusal (length a) (length b) ≡ some r
    second_wrong h = second_off _ _ (value_right set_bytes a first).0 (value_wrong set_bytes b h)

    pub both_right :
        {y : List ℕ} → Ok y ≡ by_value set_bytes b
        → (pair_refusal (length a) (length b) ≡ none) × (x ≡ a) × (y ≡ b)
    both_right h =
        let f = value_right set_bytes a first in
        let s = value_right set_bytes b h in
        (both_fit _ _ f.0 s.0, f.1, s.1)

pub ruleset pair_told = (first_wrong, second_wrong, both_right)

pub pair_fine : (a b : ℕ) → pair_refusal a b ≡ none → (a ≡ set_bytes) × (b ≡ set_bytes)
unfolding pair_refusal
pair_fine a b h =
    let r = judged_none (length_refusal set_bytes a) _ h in
    (length_right set_bytes a r.0, length_right set_bytes b (sym (judged_alone _) ∙ r.1))

pub sets_fine : (a b room : ℕ) → sets_refusal a b room ≡ none → (pair_refusal a b ≡ none) × (set_bytes ≤ room)
unfolding sets_refusal
sets_fine a b room h =
    let r = judged_none (pair_refusal a b) _ h in (r.0, room_right set_bytes room (sym (judged_alone _) ∙ r.1))
