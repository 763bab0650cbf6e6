-- Which refusals may arise from a sheet: 13, 1, 14, 3, and then 15 and 16.
use mathlib.Core.Bool.{Bool, true, false, cond}
use mathlib.Core.List.{List}
use mathlib.Core.Option.{none, some}
use Prim.Native.Nat.{ℕ, zero, suc}
use lib.Dec.{ltb, leb}
use Rattle.base.specs.Lists.{tab}
use Rattle.limits.specs.declared.Kind.TheVariants.{Counts}
use Rattle.refusals.specs.declared.Refusal.{Refusal}
use Rattle.refusals.specs.declared.Refusal.TheVariants.{LeafCount as Count, OutputRoom, SheetEnds, SheetLength}
use Rattle.refusals.specs.declared.Refusal.TheVariants.{Name, SameName}
use Rattle.refusals.specs.Refusals.{judged}
use Rattle.refusals.proofs.Causes.{Arises, arises_judged, arises_last, arises_both, arises_refuse, arises_where}
use Rattle.checks.specs.Sizes.{right_count, count_refusal_of, count_refusal, room_refusal}
use Rattle.sheet_rules.specs.Sheets.{name_start}
use Rattle.sheet_rules.specs.Operations.{right_ends, sheet_ends_refusal, right_sum, sheet_length_refusal, good_at}
use Rattle.sheet_rules.specs.Operations.{repeated, name_refusal}
use Rattle.sheet_rules.specs.Operations.{names_end_refusal, names_refusal, kept_sheet_refusal}

-- What holds of each of these holds of the one that arises.
pub record SheetCauses (P : Refusal → Type 0) : Type 0 where
  pub ends : P SheetEnds
  pub count : P Count
  pub sum : P SheetLength
  pub room : P OutputRoom
  pub name : (i : ℕ) → P (Name i)
  pub same_name : (i : ℕ) → P (SameName i)

module _ (P : Refusal → Type 0) (S : List ℕ) (n o : ℕ) (w : SheetCauses P) where
  name_arises : (i : ℕ) → Arises P (name_refusal S o i)
  unfolding name_refusal
  name_arises i = go (good_at S o (name_start S i))
    where
      go : (g : Bool) → Arises P (cond g (cond (repeated S i) (some (SameName i)) none) (some (Name i)))
      go true = arises_where P (repeated S i) (SameName i) (w.same_name i)
      go false = w.name i

  -- one after the other
  each_arises : (m : ℕ) → Arises P (judged (tab m (name_refusal S o)))
  unfolding tab
  each_arises zero = unfold judged in tt
  each_arises (suc m) =
      arises_both P (tab m (name_refusal S o)) _ (each_arises m) (arises_last P (name_refusal S o m) (name_arises m))

  names_arise : Arises P (names_refusal S n o)
  unfolding names_refusal names_end_refusal
  names_arise =
      arises_both P (tab n (name_refusal S o)) _ (each_arises n)
      (arises_last P _ (arises_where P (ltb (name_start S n) o) (Name n) (w.name n)))

  pub sheet_arises : (due room : ℕ) → Arises P (kept_sheet_refusal S n o due room)
  unfolding kept_sheet_refusal sheet_ends_refusal count_refusal_of sheet_length_refusal room_refusal
  sheet_arises due room =
      arises_judged P (sheet_ends_refusal S) _ (arises_refuse P (right_ends S) _ w.ends)
      (λ a. arises_judged P (count_refusal n) _ (arises_refuse P (right_count Counts n) _ w.count)
      (λ b. arises_judged P (sheet_length_refusal S n o) _ (arises_refuse P (right_sum S n o) _ w.sum)
      (λ c. arises_judged P (room_refusal due room) _ (arises_refuse P (leb due room) _ w.room)
      (λ d. arises_last P (names_refusal S n o) names_arise))))
