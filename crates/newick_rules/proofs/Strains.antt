-- Names of strains: each is found at its own place, and nowhere else.
use mathlib.Core.Path.{◌≡◌, refl, sym, ◌∙◌}
use mathlib.Core.Logic.{inl, inr}
use mathlib.Core.Bool.{true, ◌&&◌}
use mathlib.Core.List.{List, [], ◌∷◌, ◌++◌}
use Prim.Native.Nat.{ℕ, ◌+◌, ◌<◌}
use native.Mathlib.Omega.{arith}
use native.Mathlib.Decide.{dec_lt}
use borrow.Author.Tests.{eqb-true, eq-eqb}
use lib.Dec.{leb, eqb}
use lib.ListN.{length, get_or}
use Rattle.base.specs.Lists.{any_in, all_in}
use Rattle.base.proofs.Bools.{bool?, never, bool_iff, and_both, and_is}
use Rattle.base.proofs.Searches.{any_at}
use Rattle.sheet_rules.specs.Sheets.{longest_name, name_byte, is_name, same, leaf_named}
use Rattle.sheet_rules.proofs.Names.{same_is, same_self}
use Rattle.newick_rules.specs.Importing.{times_in}
use Rattle.newick_rules.specs.Operations.{Strains}
use Rattle.newick_rules.proofs.Plain.{is_word}

pub times_append :
    (l m : List (List ℕ)) (x : List ℕ) → times_in (l ++ m) x ≡ times_in l x + times_in m x
unfolding times_in
times_append [] m x = omega arith
times_append (y ∷ l) m x = rw (times_append l m x) (omega arith)

-- a name that is known stands at its place
pub found_at :
    (l : List (List ℕ)) (x : List ℕ) → any_in (same x) l ≡ true
    → (leaf_named l x < length l) × (get_or l (leaf_named l x) [] ≡ x)
unfolding any_in leaf_named
found_at [] x h = absurd (never h refl)
found_at (y ∷ l) x h = elim (bool? (same x y)) [
  | inl t ↦ rw t (omega arith, sym (same_is x y t))
  | inr f ↦ (let r = found_at l x (rw f at h) in rw f (omega (arith, r.0), r.1))
]

module _ (n : ℕ) (names : List (List ℕ)) (s : Strains n names) where
  -- two places have the same name only if they are one
  pub same_place : (i j : ℕ) → i < n → j < n → same (get_or names i []) (get_or names j []) ≡ eqb i j
  same_place i j p q = bool_iff (same x y) (eqb i j) there back
    where
      x : List ℕ
      x = get_or names i []

      y : List ℕ
      y = get_or names j []

      there : same x y ≡ true → eqb i j ≡ true
      there h = elim (dec_lt i j) [
        | yes l ↦ absurd (s.distinct i j l q (same_is x y h))
        | no g ↦ elim (dec_lt j i) [
          | yes l ↦ absurd (s.distinct j i l p (sym (same_is x y h)))
          | no g' ↦ eq-eqb i j (omega arith)
        ]
      ]

      back : eqb i j ≡ true → same x y ≡ true
      back h = rw (eqb-true i j h) (same_self y)

  pub known_here : (i : ℕ) → i < n → any_in (same (get_or names i [])) names ≡ true
  known_here i q = any_at (same x) [] names i (rw s.many q) (same_self x)
    where
      x : List ℕ
      x = get_or names i []

  pub named_here : (i : ℕ) → i < n → leaf_named names (get_or names i []) ≡ i
  named_here i q =
      let r = found_at names x (known_here i q) in
      let j = leaf_named names x in
      sym (eqb-true i j (sym (same_place i j q (rw s.many at r.0)) ∙ rw r.1 (same_self x)))
    where
      x : List ℕ
      x = get_or names i []

  pub word_here : (i : ℕ) → i < n → is_word (get_or names i []) ≡ true
  unfolding is_word is_name
  word_here i q =
      let x = get_or names i [] in
      let r = and_both (leb 1 (length x) && leb (length x) longest_name) (all_in name_byte x) (s.are_names i q) in
      and_is _ _ (and_both (leb 1 (length x)) (leb (length x) longest_name) r.0).0 r.1
