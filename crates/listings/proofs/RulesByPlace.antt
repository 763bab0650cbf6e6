-- A listing judged place by place: what the rules say from place p on, after the children before it, is what they say
-- of the whole; and a mark for each number named before p.
use mathlib.Core.Path.{◌≡◌, refl, sym, ◌∙◌}
use mathlib.Core.Bool.{Bool, true, false}
use mathlib.Core.List.{List, [], ◌∷◌}
use mathlib.Core.Option.{Option, none, some}
use Prim.Native.Nat.{ℕ, zero, suc, ◌+◌, ◌/◌, ◌≤◌, ◌<◌}
use native.Mathlib.Numerals.{add-one}
use native.Mathlib.Omega.{arith}
use native.Mathlib.Decide.{ℕ_discrete}
use borrow.Author.Tests.{ne_eqb}
use lib.Dec.{eqb}
use lib.ListN.{length, get_or, set, drop, replicate, length-set, length-replicate, get_or-replicate, drop_of_length-le}
use lib.Seq.{drop-cons, get_or-set_same, get_or-set_other}
use Rattle.base.specs.Lists.{any_in}
use Rattle.base.proofs.Bools.{is_false, eqb_same}
use Rattle.limits.specs.Limits.{most_nodes}
use Rattle.refusals.specs.declared.Refusal.{Refusal}
use Rattle.refusals.specs.declared.Refusal.TheVariants.{Child, NamedBefore}
use Rattle.trees.specs.Listings.{child, rules_refusal_from, rules_refusal}
use Rattle.trees.proofs.Rules.{child_in, child_is, place_keeps}

-- the children before place p, the latest first
unfoldable pub earlier : List ℕ → ℕ → List ℕ
earlier l zero = []
earlier l (suc p) = get_or l p 0 ∷ earlier l p

-- the first place from p on that breaks the rules
abbrev pub rules_refusal_at : ℕ → List ℕ → ℕ → Option Refusal
rules_refusal_at n l p = rules_refusal_from n (earlier l p) p p (drop p l)

pub judge_start : (n : ℕ) (l : List ℕ) → rules_refusal_at n l 0 ≡ rules_refusal n l
unfolding earlier rules_refusal
judge_start n l = refl

-- The places before p are judged: from here on the rules find what they find from the start, and a number is marked
-- exactly where it was named before.
pub record PassedTo (n : ℕ) (l : List ℕ) (p : ℕ) (named : List Bool) : Type 0 where
  pub within : p ≤ length l
  pub same : rules_refusal_at n l p ≡ rules_refusal n l
  pub long : length named ≡ most_nodes
  pub marks : (k : ℕ) → k < most_nodes → get_or named k false ≡ any_in (eqb k) (earlier l p)

pub none_judged : (n : ℕ) (l : List ℕ) → PassedTo n l 0 (replicate most_nodes false)
unfolding any_in earlier
none_judged n l = record {
  within = omega arith;
  same = judge_start n l;
  long = length-replicate most_nodes false;
  marks = λ k h. get_or-replicate most_nodes k false false h;
}

module _ {n : ℕ} {l : List ℕ} {p : ℕ} {named : List Bool} (w : PassedTo n l p named) where
  pub all_judged : length l ≤ p → rules_refusal n l ≡ none
  all_judged h = sym w.same ∙ (unfold rules_refusal_from in rw (drop_of_length-le l h))

  -- the child c at place p
  module _ (here : p < length l) (c : ℕ) (e : c ≡ get_or l p 0) where
    this : rules_refusal_from n (earlier l p) p p (c ∷ drop (suc p) l) ≡ rules_refusal n l
    this = rw e (rw (drop-cons l p 0 here) at w.same)

    pub no_child : 0 < n → (0 < c → n + p / 2 ≤ c) → rules_refusal n l ≡ some (Child p)
    no_child z h = sym this ∙ (unfold rules_refusal_from in rw off)
      where
        off : child n (p / 2) c ≡ false
        off = is_false (child n (p / 2) c) (λ t. let r = child_in n (p / 2) c z t in omega (arith, h r.0, r.1))

    module _ (low : 0 < c) (high : c < n + p / 2) (small : c < most_nodes) where
      pub named_before : get_or named c false ≡ true → rules_refusal n l ≡ some (NamedBefore p)
      named_before m =
          sym this ∙ (unfold rules_refusal_from in rw (child_is n (p / 2) c low high, sym (w.marks c small) ∙ m))

      pub judged_more : get_or named c false ≡ false → PassedTo n l (p + 1) (set named c true)
      unfolding any_in earlier
      judged_more m = record {
        within = omega arith;
        same = rw (add-one p, ← e)
            (sym (place_keeps n (earlier l p) p p c (drop (suc p) l) (child_is n (p / 2) c low high) new) ∙ this);
        long = length-set named c true ∙ w.long;
        marks = λ k h. rw (add-one p, ← e) (elim (ℕ_discrete k c) [
          | yes q ↦ rw (q, eqb_same c) (get_or-set_same named c true false (omega (arith, w.long)))
          | no q ↦ rw (ne_eqb k c q) (get_or-set_other named c k true false q ∙ w.marks k h)
        ]);
      }
        where
          new : any_in (eqb c) (earlier l p) ≡ false
          new = sym (w.marks c small) ∙ m
