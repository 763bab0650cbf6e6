-- A name of a text that ends is looked up, and what is kept says so: the name is wrong, or its leaf is the last
-- drawing.
use mathlib.Core.Path.{◌≡◌, refl, sym, ◌∙◌}
use mathlib.Core.Logic.{inl, inr}
use mathlib.Core.Bool.{Bool, true, false, ◌||◌}
use mathlib.Core.List.{List, [], ◌∷◌, ◌++◌}
use mathlib.Core.Option.{none, some}
use Prim.Native.Nat.{ℕ, ◌≤◌, ◌<◌}
use native.Mathlib.Omega.{arith}
use native.Mathlib.Decide.{dec_lt, ℕ_discrete}
use borrow.Author.Tests.{ne_eqb}
use lib.Dec.{eqb}
use lib.ListN.{length, get_or, set, length-set}
use lib.Seq.{get_or-set_same, get_or-set_other}
use Rattle.base.proofs.Bools.{bool?, never, eqb_same}
use Rattle.limits.specs.Limits.{most_leaves}
use Rattle.sheet_rules.specs.Sheets.{same, leaf_named, names_of}
use Rattle.name_index.specs.inner.Indexes.{FirstNames, names_in}
use Rattle.newick_rules.specs.Drawings.{name as named_drawing}
use Rattle.newick_rules.specs.Reader.{Open, inside}
use Rattle.newick_reading.specs.inner.Naming.{names_so_far, Wrong}
use Rattle.newick_reading.proofs.Fitting.{fits_name}
use Rattle.newick_reading.proofs.Naming.{names_name, still_wrong, unknown_wrong, again_wrong, right_more}
use Rattle.newick_reading.proofs.Joining.{keeps_name}
use Rattle.newick_parts.specs.declared.Kept.{Kept}
use Rattle.rerooted_rows.specs.inner.Arrays.{rows_made, chain_kept}
use Rattle.newick_parts.specs.inner.Keeping.{Built, KeptAt}
use Rattle.newick_text.specs.inner.Names.{flags, misnamed_kept, named_kept, Indexed, NameTaken}

-- the index has the names of the sheet
pub leaf_of_sheet :
    (x : FirstNames) → Indexed x → (y : List ℕ) → leaf_named (names_in x) y ≡ leaf_named (names_of x.sheet) y
unfolding names_of
leaf_of_sheet x I y = rw I

leaf_named_le : (known : List (List ℕ)) (x : List ℕ) → leaf_named known x ≤ length known
unfolding leaf_named
leaf_named_le [] x = omega arith
leaf_named_le (y ∷ l) x = elim (bool? (same x y)) [
  | inl t ↦ rw t (omega arith)
  | inr f ↦ rw f (omega (arith, leaf_named_le l x))
]

-- The ways out of `take_name`.
module _ {known : List (List ℕ)} {n : ℕ} {x : List ℕ} {K : Kept} {seen : List Bool} where
  pub taken_misnamed : K.named ≡ false → NameTaken known n x K seen K seen
  taken_misnamed f = record {
    misnamed = λ _. (refl, refl);
    unknown = λ t _. absurd (never t f);
    again = λ t _ _. absurd (never t f);
    new = λ t _ _. absurd (never t f);
  }

  module _ (t : K.named ≡ true) (i : ℕ) (e : i ≡ leaf_named known x) where
    pub taken_unknown : n ≤ i → NameTaken known n x K seen (misnamed_kept K) seen
    taken_unknown h = record {
      misnamed = λ f. absurd (never t f);
      unknown = λ _ _. (refl, refl);
      again = λ _ l _. absurd (omega arith);
      new = λ _ l _. absurd (omega arith);
    }

    pub taken_again : i < n → get_or seen i false ≡ true → NameTaken known n x K seen (misnamed_kept K) seen
    taken_again l s = record {
      misnamed = λ f. absurd (never t f);
      unknown = λ _ g. absurd (omega arith);
      again = λ _ _ _. (refl, refl);
      new = λ _ _ f. absurd (never s (rw (← e) at f));
    }

    pub taken_new :
        i < n → get_or seen i false ≡ false → NameTaken known n x K seen (named_kept K i) (set seen i true)
    taken_new l s = record {
      misnamed = λ f. absurd (never t f);
      unknown = λ _ g. absurd (omega arith);
      again = λ _ _ f. absurd (never f (rw e at s));
      new = λ _ _ _. (rw e, rw e);
    }

-- What is kept behind a name that ends within a bracket.
module _ {known : List (List ℕ)} {n : ℕ} {s : List Open} {K : Kept}
    (x : List ℕ) (seen : List Bool) (z : 0 < n) (few : n ≤ most_leaves) (many : length known ≡ n)
    (within : inside s ≡ true) (long : length seen ≡ most_leaves)
    (A : KeptAt known n s none K (flags seen)) where
  -- a wrong name
  wrong_kept :
      Wrong known n (names_so_far s none ++ (x ∷ []))
      → KeptAt known n s (some (named_drawing x)) (misnamed_kept K) (flags seen)
  wrong_kept w = record {
    parts_long = A.parts_long;
    numbers_long = A.numbers_long;
    rows_long = A.rows_long;
    chain_long = A.chain_long;
    fits_is = A.fits_is ∙ sym (fits_name s x within);
    ways_are = A.ways_are;
    names = record { right = λ t. absurd (never t refl); wrong = λ _. rw (names_name s x) w };
    built = λ _ t. absurd (never t refl);
  }

  misnamed_already : K.named ≡ false → misnamed_kept K ≡ K
  misnamed_already f = rw (← f)

  -- a leaf that was not named before
  module _ (t : K.named ≡ true) (low : leaf_named known x < n) (new : flags seen (leaf_named known x) ≡ false) where
    sees :
        (k : ℕ) → k < n
        → flags (set seen (leaf_named known x) true) k ≡ (eqb k (leaf_named known x) || flags seen k)
    sees k q = elim (ℕ_discrete k (leaf_named known x)) [
      | yes e ↦
          rw (e, eqb_same (leaf_named known x))
          (get_or-set_same seen (leaf_named known x) true false (omega arith))
      | no d ↦ rw (ne_eqb k (leaf_named known x) d) (get_or-set_other seen (leaf_named known x) k true false d)
    ]

    new_built :
        Built known n s none K (flags seen)
        → Built known n s (some (named_drawing x)) (named_kept K (leaf_named known x))
        (flags (set seen (leaf_named known x) true))
    new_built B = record {
      of_opens = B.of_opens;
      opens_held = B.opens_held;
      keeps =
          keeps_name known n z s B.of_opens K.last K.joined.made (rows_made K.joined) (chain_kept K.joined) (flags seen)
          x
          (flags (set seen (leaf_named known x) true)) low new sees B.keeps;
    }

    new_kept :
        KeptAt known n s (some (named_drawing x)) (named_kept K (leaf_named known x))
        (flags (set seen (leaf_named known x) true))
    new_kept = record {
      parts_long = A.parts_long;
      numbers_long = A.numbers_long;
      rows_long = A.rows_long;
      chain_long = A.chain_long;
      fits_is = A.fits_is ∙ sym (fits_name s x within);
      ways_are = A.ways_are;
      names = record {
        right = λ _.
            rw (names_name s x)
            (right_more known n (names_so_far s none) x (flags seen) K.many (A.names.right t) low
            (flags (set seen (leaf_named known x) true)) new sees);
        wrong = λ f. absurd (never t f);
      };
      built = λ b _. new_built (A.built b t);
    }

  pub name_kept :
      {K' : Kept} {seen' : List Bool} → NameTaken known n x K seen K' seen'
      → KeptAt known n s (some (named_drawing x)) K' (flags seen')
      × (length seen' ≡ most_leaves)
  name_kept T = elim (bool? K.named) [
    | inr f ↦
        let r = T.misnamed f in
        rw (r.0, r.1)
        (rw (misnamed_already f) at (wrong_kept (still_wrong known n (names_so_far s none) x (A.names.wrong f))), long)
    | inl t ↦ elim (dec_lt (leaf_named known x) n) [
      | no g ↦
          let r = T.unknown t (omega arith) in
          let e : (leaf_named known x) ≡ n = omega (arith, leaf_named_le known x) in
          rw (r.0, r.1)
          (wrong_kept (unknown_wrong known n (names_so_far s none) x e), long)
      | yes l ↦ elim (bool? (flags seen (leaf_named known x))) [
        | inl q ↦
            let r = T.again t l q in
            let right = A.names.right t in
            rw (r.0, r.1) (
              wrong_kept
                  (again_wrong known n (names_so_far s none) x (flags seen) K.many right l q),
              long,
            )
        | inr q ↦
            let r = T.new t l q in
            rw (r.0, r.1) (new_kept t l q, length-set seen (leaf_named known x) true ∙ long)
      ]
    ]
  ]
