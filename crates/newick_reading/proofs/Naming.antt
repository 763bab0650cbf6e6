-- 19 while a text is read: a name more, and what the names say at the end. The idea: how often each leaf is named, at
-- most once while all is right, so that the leaves seen are as many as the names.
use mathlib.Core.Path.{◌≡◌, refl, sym, ◌∙◌}
use mathlib.Core.Logic.{inl, inr}
use mathlib.Core.Bool.{Bool, true, false, not, ◌&&◌, ◌||◌, and-true}
use mathlib.Core.List.{List, [], ◌∷◌, ◌++◌, append-nil, append_assoc}
use mathlib.Core.Option.{none, some}
use Prim.Native.Nat.{ℕ, ◌+◌, ◌<◌}
use native.Mathlib.Omega.{arith}
use native.Mathlib.Decide.{ℕ_discrete}
use borrow.Author.Tests.{eqb-true, eq-eqb, ne_eqb}
use lib.Dec.{eqb}
use lib.ListN.{length, get_or}
use Rattle.base.specs.Numbers.{indicator, count_below}
use Rattle.base.specs.Lists.{any_in, all_in}
use Rattle.base.proofs.Bools.{bool?, bool_iff, is_false, and_both, and_is, eqb_same}
use Rattle.base.proofs.Counts.{count_ext, count_drop, count_full, count_all, count_false}
use Rattle.base.proofs.Searches.{all_places, all_at}
use Rattle.sheet_rules.specs.Sheets.{same, leaf_named}
use Rattle.sheet_rules.proofs.Names.{same_is, same_self, named_none}
use Rattle.newick_rules.specs.Drawings.{Drawing, name, bracket, Parts, names_in}
use Rattle.newick_rules.specs.Reader.{Open, with_part}
use Rattle.newick_rules.specs.Importing.{times_in, each_once}
use Rattle.newick_rules.specs.Operations.{Strains}
use Rattle.newick_rules.proofs.Strains.{found_at, named_here}
use Rattle.newick_reading.specs.inner.Naming.{open_names, opens_names, last_names, names_so_far, hits}
use Rattle.newick_reading.specs.inner.Naming.{RightSoFar, Wrong}
use Rattle.rerooted_rows.proofs.Joining.{counted_true}

-- The names so far, event by event.
pub names_name :
    (s : List Open) (x : List ℕ) → names_so_far s (some (name x)) ≡ names_so_far s none ++ (x ∷ [])
unfolding names_so_far last_names names_in
names_name s x = rw append-nil

pub names_opening : (s : List Open) → names_so_far (none ∷ s) none ≡ names_so_far s none
unfolding names_so_far last_names opens_names open_names
names_opening s = simp append-nil

pub names_part :
    (o : Open) (s : List Open) (d : Drawing)
    → names_so_far (some (with_part o d) ∷ s) none ≡ names_so_far (o ∷ s) (some d)
unfolding names_so_far last_names opens_names open_names with_part names_in
names_part none s d = simp append-nil
names_part (some p) s d = simp (append-nil, append_assoc)

pub names_close : (q : Parts) (s : List Open) → names_so_far s (some (bracket q)) ≡ names_so_far (some q ∷ s) none
unfolding names_so_far last_names opens_names open_names names_in
names_close q s = simp append-nil

-- A name more.
hits_more :
    (known : List (List ℕ)) (i : ℕ) (l : List (List ℕ)) (x : List ℕ)
    → hits known i (l ++ (x ∷ [])) ≡ hits known i l + indicator (eqb (leaf_named known x) i) 1
unfolding hits
hits_more known i [] x = omega arith
hits_more known i (y ∷ l) x = rw (hits_more known i l x) (omega arith)

module _ (known : List (List ℕ)) (n : ℕ) (l : List (List ℕ)) (x : List ℕ) where
  -- what was wrong stays wrong
  pub still_wrong : Wrong known n l → Wrong known n (l ++ (x ∷ []))
  still_wrong w = elim w [
    | inl h ↦ inl (omega (arith, hits_more known n l x))
    | inr h ↦ inr (h.0, h.1, omega (arith, h.2, hits_more known h.0 l x))
  ]

  -- a name that is not known
  pub unknown_wrong : leaf_named known x ≡ n → Wrong known n (l ++ (x ∷ []))
  unknown_wrong e = inl (omega (arith, rw (e, eqb_same n) at (hits_more known n l x)))

  module _ (seen : ℕ → Bool) (many : ℕ) (R : RightSoFar known n l seen many) (low : leaf_named known x < n) where
    -- a name that stood there before
    pub again_wrong : seen (leaf_named known x) ≡ true → Wrong known n (l ++ (x ∷ []))
    again_wrong t =
        let i = leaf_named known x in
        inr (i, low, omega (arith, rw (eqb_same i) at (hits_more known i l x), rw t at (R.once i low)))

    -- a name of a leaf that was not seen
    pub right_more :
        (seen' : ℕ → Bool) → seen (leaf_named known x) ≡ false
        → ((k : ℕ) → k < n → seen' k ≡ (eqb k (leaf_named known x) || seen k))
        → RightSoFar known n (l ++ (x ∷ [])) seen' (many + 1)
    right_more seen' new sees = record {
      all_known = omega (arith, rw (ne_eqb i n (λ e. omega arith)) at (hits_more known n l x), R.all_known);
      once = once';
      many_is = omega (arith, R.many_is, counted);
    }
      where
        i : ℕ
        i = leaf_named known x

        once' : (k : ℕ) → k < n → hits known k (l ++ (x ∷ [])) ≡ indicator (seen' k) 1
        once' k q = elim (ℕ_discrete k i) [
          | yes e ↦
              rw (hits_more known k l x, sees k q, e, eqb_same i)
              (omega (arith, rw new at (R.once i low)))
          | no d ↦
              rw (hits_more known k l x, sees k q, ne_eqb k i d, ne_eqb i k (λ e. d (sym e)))
              (omega (arith, R.once k q))
        ]

        -- the leaves seen before are those seen now, but one
        before : (k : ℕ) → k < n → seen k ≡ (seen' k && not (eqb k i))
        before k q = elim (ℕ_discrete k i) [
          | yes e ↦ rw (sees k q, e, eqb_same i) new
          | no d ↦ rw (sees k q, ne_eqb k i d) (sym (and-true (seen k)))
        ]

        counted : count_below n seen' ≡ count_below n seen + 1
        counted =
            count_drop n seen' i low (rw (sees i low, eqb_same i))
            ∙ rw (count_ext n seen (λ k. seen' k && not (eqb k i)) before)

pub right_start :
    (known : List (List ℕ)) (n : ℕ) (seen : ℕ → Bool) → ((k : ℕ) → seen k ≡ false) → RightSoFar known n [] seen 0
unfolding hits
right_start known n seen h = record {
  all_known = refl;
  once = λ i q. rw (h i);
  many_is = sym (count_ext n seen (λ k. false) (λ k q. h k) ∙ count_false n);
}

-- At the end.
-- every name is known: none has the number of those known
known_hits :
    (known names : List (List ℕ))
    → all_in (λ x. any_in (same x) known) names ≡ eqb (hits known (length known) names) 0
unfolding all_in hits
known_hits known [] = refl
known_hits known (x ∷ l) = elim (bool? (any_in (same x) known)) [
  | inl t ↦
      let r = found_at known x t in
      let z : 0 + hits known (length known) l ≡ hits known (length known) l = omega arith in
      rw (t, ne_eqb (leaf_named known x) (length known) (λ e. omega (arith, r.0)), z) (known_hits known l)
  | inr f ↦
      rw (f, eq-eqb (leaf_named known x) (length known) (named_none known x f))
      (sym (ne_eqb (1 + hits known (length known) l) 0 (λ e. omega arith)))
]

module _ (n : ℕ) (known : List (List ℕ)) (s : Strains n known) where
  same_leaf : (i : ℕ) (y : List ℕ) → i < n → same (get_or known i []) y ≡ eqb (leaf_named known y) i
  same_leaf i y q = bool_iff (same x y) (eqb (leaf_named known y) i) there back
    where
      x : List ℕ
      x = get_or known i []

      there : same x y ≡ true → eqb (leaf_named known y) i ≡ true
      there h = eq-eqb (leaf_named known y) i (rw (same_is x y h) at (named_here n known s i q))

      back : eqb (leaf_named known y) i ≡ true → same x y ≡ true
      back h =
          let e = eqb-true (leaf_named known y) i h in
          elim (bool? (any_in (same y) known)) [
            | inl t ↦ (let r = rw e at (found_at known y t).1 in rw r (same_self y))
            | inr f ↦ absurd (omega (arith, e, named_none known y f, s.many))
          ]

  -- each name stands as often as its leaf is named
  times_hits : (names : List (List ℕ)) (i : ℕ) → i < n → times_in names (get_or known i []) ≡ hits known i names
  unfolding times_in hits
  times_hits [] i q = refl
  times_hits (y ∷ l) i q = rw (same_leaf i y q, times_hits l i q)

  module _ (names : List (List ℕ)) where
    -- the names are right exactly when each leaf is named once, and no other name stands there
    hits_right :
        hits known n names ≡ 0 → ((i : ℕ) → i < n → hits known i names ≡ 1) → each_once known names ≡ true
    unfolding each_once
    hits_right z h =
        and_is _ _ (known_hits known names ∙ rw (s.many, z))
        (all_places (λ x. eqb (times_in names x) 1) [] known
        (λ i q. let q' = rw s.many at q in rw (times_hits names i q', h i q')))

    right_hits :
        each_once known names ≡ true → (hits known n names ≡ 0) × ((i : ℕ) → i < n → hits known i names ≡ 1)
    unfolding each_once
    right_hits h =
        let r = and_both (all_in (λ x. any_in (same x) known) names) (all_in (λ x. eqb (times_in names x) 1) known) h in
        let none_else = sym (known_hits known names) ∙ r.0 in (
          eqb-true _ 0 (rw s.many at none_else),
          λ i q.
              sym (times_hits names i q)
              ∙ eqb-true _ 1 (all_at (λ x. eqb (times_in names x) 1) [] known r.1 i (rw s.many q)),
        )

    pub wrong_judged : Wrong known n names → each_once known names ≡ false
    wrong_judged w = is_false (each_once known names) (λ t.
        let r = right_hits t in
        elim w [ inl h ↦ omega (arith, r.0) | inr h ↦ omega (arith, h.2, r.1 h.0 h.1) ])

    pub right_judged :
        (seen : ℕ → Bool) (many : ℕ) → RightSoFar known n names seen many → each_once known names ≡ eqb many n
    right_judged seen many R = bool_iff (each_once known names) (eqb many n) there back
      where
        there : each_once known names ≡ true → eqb many n ≡ true
        there t =
            let each = (right_hits t).1 in
            let all = count_all n seen (λ k q. counted_true (seen k) (omega (arith, R.once k q, each k q))) in
            eq-eqb many n (R.many_is ∙ all)

        back : eqb many n ≡ true → each_once known names ≡ true
        back t =
            let e = eqb-true many n t in
            let full = count_full n seen (omega (arith, R.many_is)) in
            hits_right R.all_known (λ i q. R.once i q ∙ rw (full i q))
