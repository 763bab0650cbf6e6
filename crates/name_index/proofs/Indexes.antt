-- The chains of an index. Of each bucket a chain runs down through all its leaves, so that those which it leaves out
-- have other names: the invariant of a search is that no leaf from here up has the name.
use Rattle.std.specs.Prelude.{Some, None, position}
use mathlib.Core.Path.{◌≡◌, ap, sym, ◌∙◌}
use mathlib.Core.Logic.{◌≢◌, inl, inr}
use mathlib.Core.Bool.{true, false}
use mathlib.Core.List.{List}
use Prim.Native.Nat.{ℕ, zero, suc, ◌+◌, ◌≤◌, ◌<◌}
use native.Mathlib.Nat.{mod-lt}
use native.Mathlib.Numerals.{add-one}
use native.Mathlib.Omega.{arith}
use native.Mathlib.Decide.{dec_lt, ℕ_discrete}
use borrow.Author.Tests.{eqb-true, eq-eqb, ne_eqb}
use lib.Dec.{eqb}
use lib.ListN.{length, get_or, set, replicate, length-set, get_or-replicate, length-replicate}
use lib.Seq.{get_or-set_same, get_or-set_other}
use Rattle.base.specs.Lists.{tab}
use Rattle.base.proofs.Bools.{bool?, is_false, never}
use Rattle.base.proofs.Lists.{length_tab}
use Rattle.limits.specs.Limits.{most_leaves}
use Rattle.sheet_rules.specs.Sheets.{name_at, next_name, name_start, name, same}
use Rattle.sheet_rules.specs.Operations.{repeated}
use Rattle.sheet_rules.proofs.Names.{same_is, named_none, any_tab_none, next_before, start_next, start_name}
use Rattle.name_index.specs.inner.Hashes.{buckets, bucket_of}
use Rattle.name_index.specs.inner.Indexes.{leaf_bucket, latest, Indexes}
use Rattle.name_index.proofs.NamedLeaves.{named_first, found_here, found_nowhere}

-- the greatest number below k that is sent to b: it is, and those above it are not
module _ (f : ℕ → ℕ) (b : ℕ) where
  latest_within : (k : ℕ) → latest f b k ≤ k
  unfolding latest
  latest_within zero = omega arith
  latest_within (suc k) = elim (bool? (eqb (f k) b)) [
    | inl t ↦ rw t (omega arith)
    | inr t ↦ rw t (omega (arith, latest_within k))
  ]

  latest_is : (k i : ℕ) → latest f b k ≡ i + 1 → f i ≡ b
  unfolding latest
  latest_is zero i h = absurd (omega arith)
  latest_is (suc k) i h = elim (bool? (eqb (f k) b)) [
    | inl t ↦ (let e : k ≡ i = omega (arith, rw t at h) in rw e at (eqb-true (f k) b t))
    | inr t ↦ latest_is k i (rw t at h)
  ]

  latest_above : (k i : ℕ) → latest f b k ≤ i → i < k → f i ≢ b
  unfolding latest
  latest_above zero i h l e = omega arith
  latest_above (suc k) i h l e = elim (bool? (eqb (f k) b)) [
    | inl t ↦ omega (arith, rw t at h)
    | inr t ↦ (elim (dec_lt i k) [
      | yes l' ↦ latest_above k i (rw t at h) l' e
      | no g ↦ (let q : k ≡ i = omega arith in absurd (never (eq-eqb (f k) b (ap f q ∙ e)) t))
    ])
  ]

  -- one number more
  latest_here : (k : ℕ) → f k ≡ b → latest f b (k + 1) ≡ k + 1
  unfolding latest
  latest_here k e = rw (add-one k, eq-eqb (f k) b e)

  latest_other : (k : ℕ) → f k ≢ b → latest f b (k + 1) ≡ latest f b k
  unfolding latest
  latest_other k h = rw (add-one k, ne_eqb (f k) b h)

-- the index of no names, in arrays of zeros
pub index_none :
    (S : List ℕ) → Indexes S 0 (replicate buckets 0) (replicate most_leaves 0) (replicate most_leaves 0)
unfolding name_start latest
index_none S =
    record {
      few = omega arith;
      ends = omega arith;
      distinct = λ i l. absurd (omega arith);
      heads_long = length-replicate {A = ℕ} buckets 0;
      before_long = length-replicate {A = ℕ} most_leaves 0;
      starts_long = length-replicate {A = ℕ} most_leaves 0;
      heads_are = λ b l. get_or-replicate {A = ℕ} buckets b 0 0 l;
      before_are = λ i l. absurd (omega arith);
      starts_are = λ i l. absurd (omega arith);
    }

other_bucket : (x y : List ℕ) → bucket_of y ≢ bucket_of x → same x y ≡ false
other_bucket x y h = is_false (same x y) (λ t. h (ap bucket_of (sym (same_is x y t))))

-- A search for the name x among the first k: the chain goes on with this leaf, one less than the number given, and no
-- leaf from there up has the name.
pub record Searching (S : List ℕ) (k : ℕ) (x : List ℕ) (chain : ℕ) : Type 0 where
  pub within : chain ≤ k
  pub chained : (i : ℕ) → chain ≡ i + 1 → leaf_bucket S i ≡ bucket_of x
  pub unlike : (i : ℕ) → chain ≤ i → i < k → same x (name S i) ≡ false

searching_below :
    (S : List ℕ) (k : ℕ) (x : List ℕ) (j : ℕ) {chain : ℕ} → chain ≡ latest (leaf_bucket S) (bucket_of x) j → j ≤ k
    → ((i : ℕ) → j ≤ i → i < k → same x (name S i) ≡ false) → Searching S k x chain
searching_below S k x j {chain} e l above =
    let f = leaf_bucket S in
    let b = bucket_of x in
    record {
      within = omega (arith, e, latest_within f b j);
      chained = λ i h. latest_is f b j i (sym e ∙ h);
      unlike = λ i h h'. elim (dec_lt i j) [
        | yes m ↦ other_bucket x (name S i) (latest_above f b j i (omega (arith, e)) m)
        | no m ↦ above i (omega arith) h'
      ];
    }

module _ {S : List ℕ} {k : ℕ} {heads before starts : List ℕ} (x : Indexes S k heads before starts) where
  -- a name of the index lies within the sheet
  pub index_place : {i p : ℕ} → i < k → p ≡ get_or starts i 0 → next_name S p ≤ length S
  index_place {i} l e = omega (arith, next_before S (e ∙ x.starts_are i l) l, x.ends)

  pub index_name : {i p : ℕ} → i < k → p ≡ get_or starts i 0 → name_at S p ≡ name S i
  index_name {i} l e = start_name S i (e ∙ x.starts_are i l)

  -- one name more, which equals none of these
  pub index_more :
      {at b : ℕ} → k < most_leaves → at ≡ name_start S k → next_name S at ≤ length S → repeated S k ≡ false
      → b ≡ leaf_bucket S k
      → Indexes S (k + 1) (set heads b (k + 1)) (set before k (get_or heads b 0)) (set starts k at)
  index_more {at} {b} few at_is ends new b_is =
      let b_fits : b < buckets = rw b_is (mod-lt _ (omega arith)) in
      record {
        few = omega arith;
        ends = omega (arith, start_next S k at_is);
        distinct = λ i l. elim (dec_lt i k) [
          | yes m ↦ x.distinct i m
          | no m ↦ (let e : i ≡ k = omega arith in rw e new)
        ];
        heads_long = length-set heads b (k + 1) ∙ x.heads_long;
        before_long = length-set before k (get_or heads b 0) ∙ x.before_long;
        starts_long = length-set starts k at ∙ x.starts_long;
        heads_are = λ c l. elim (ℕ_discrete c b) [
          | yes e ↦
              (rw e
              (get_or-set_same heads b (k + 1) 0 (omega (arith, x.heads_long))
              ∙ sym (latest_here (leaf_bucket S) b k (sym b_is))))
          | no d ↦
              (get_or-set_other heads b c (k + 1) 0 d ∙ x.heads_are c l
              ∙ sym (latest_other (leaf_bucket S) c k (λ e. d (sym e ∙ sym b_is))))
        ];
        before_are = λ i l. elim (dec_lt i k) [
          | yes m ↦ get_or-set_other before k i (get_or heads b 0) 0 (λ e. omega arith) ∙ x.before_are i m
          | no m ↦
              (let e : i ≡ k = omega arith in
              rw e
              (get_or-set_same before k (get_or heads b 0) 0 (omega (arith, x.before_long))
              ∙ x.heads_are b b_fits ∙ rw b_is))
        ];
        starts_are = λ i l. elim (dec_lt i k) [
          | yes m ↦ get_or-set_other starts k i at 0 (λ e. omega arith) ∙ x.starts_are i m
          | no m ↦
              (let e : i ≡ k = omega arith in
              rw e (get_or-set_same starts k at 0 (omega (arith, x.starts_long)) ∙ at_is))
        ];
      }

  module _ (y : List ℕ) where
    -- the search starts at the bucket; goes on from a leaf with another name; ends
    pub search_starts : {b chain : ℕ} → b ≡ bucket_of y → chain ≡ get_or heads b 0 → Searching S k y chain
    search_starts {b} e h =
        let fits : bucket_of y < buckets = mod-lt _ (omega arith) in
        searching_below S k y k ((rw e at h) ∙ x.heads_are (bucket_of y) fits) (omega arith)
        (λ i l l'. absurd (omega arith))

    module _ {chain : ℕ} (s : Searching S k y chain) (i : ℕ) (at : chain ≡ i + 1) where
      pub search_more :
          {next : ℕ} → same y (name S i) ≡ false → next ≡ get_or before i 0 → Searching S k y next
      search_more d e =
          let l : i < k = omega (arith, s.within) in
          let here = rw (s.chained i at) at (x.before_are i l) in
          searching_below S k y i (e ∙ here) (omega arith) (λ j h h'. elim (ℕ_discrete j i) [
            | yes q ↦ rw q d
            | no q ↦ s.unlike j (omega arith) h'
          ])

      pub search_falls : {next : ℕ} → next ≡ get_or before i 0 → next < chain
      search_falls e =
          let l : i < k = omega (arith, s.within) in
          omega (arith, e, x.before_are i l, latest_within (leaf_bucket S) (leaf_bucket S i) i)

      pub search_finds : same y (name S i) ≡ true → Some i ≡ position (same y) (tab k (name S))
      search_finds t =
          let l : i < k = omega (arith, s.within) in
          let first =
          named_first y (name S) k i l t (unfold repeated in rw (same_is y (name S i) t) (x.distinct i l)) in
          found_here (tab k (name S)) y first (rw (length_tab k (name S)) l)

pub search_fails :
    {S : List ℕ} {k : ℕ} {y : List ℕ} → Searching S k y 0 → None ≡ position (same y) (tab k (name S))
search_fails {S} {k} {y} s =
    found_nowhere (tab k (name S)) y
    (named_none (tab k (name S)) y (any_tab_none (same y) (name S) k (λ i l. s.unlike i (omega arith) l)))
