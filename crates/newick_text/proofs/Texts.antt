-- A text read byte by byte: what is kept of the first k bytes gives what is kept of one more; and at the end, or where
-- a byte breaks the grammar, it says what import answers.
use Rattle.std.specs.Prelude.{Ok, Err}
use mathlib.Core.Path.{◌≡◌, refl, ap, sym, ◌∙◌}
use mathlib.Core.Logic.{inl, inr, ◌≢◌}
use mathlib.Core.Bool.{Bool, true, false, ◌&&◌}
use mathlib.Core.List.{List, [], ◌∷◌, ◌++◌}
use mathlib.Core.Option.{Option, none, some}
use Prim.Native.Nat.{ℕ, zero, suc, ◌+◌, ◌-◌, ◌≤◌, ◌<◌}
use native.Mathlib.Numerals.{add-one}
use native.Mathlib.Omega.{arith}
use native.Mathlib.Decide.{ℕ_discrete}
use borrow.Author.Tests.{eqb-true, ne_eqb, eq-eqb}
use lib.Dec.{eqb, ltb}
use lib.ListN.{length, get_or, drop, replicate, length-replicate, length-drop, drop_of_length-le}
use lib.Seq.{drop-cons, take-suc, get_or-drop}
use Rattle.base.proofs.Bools.{bool?, never}
use Rattle.base.proofs.Counts.{count_le}
use Rattle.limits.specs.Limits.{most_leaves, most_numbers, IsLeafCount}
use Rattle.refusals.specs.declared.Refusal.TheVariants.{NotBinary, Unmatched}
use Rattle.refusals.specs.Refusals.{refuse, judged, outcome_of}
use Rattle.sheet_rules.specs.Sheets.{name_byte, names_of}
use Rattle.newick_rules.specs.Drawings.{Drawing}
use Rattle.newick_rules.specs.Drawings.{name as named_drawing}
use Rattle.newick_rules.specs.Reader.{opening, closing, blank, length_byte, Open, inside, follows, step}
use Rattle.newick_rules.specs.Reader.{Place, due, in_name, behind, at_length, in_length, ended}
use Rattle.newick_rules.specs.Reader.{draws, breaks, at_end, read_on, read}
use Rattle.newick_rules.specs.Importing.{deepest}
use Rattle.newick_rules.specs.Operations.{Strains}
use Rattle.newick_rules.proofs.Running.{If, if_cond, if_map}
use Rattle.name_index.specs.inner.Hashes.{hashes, hash_step, hash_from, hash_of}
use Rattle.name_index.proofs.Hashes.{hash_more}
use Rattle.newick_reading.specs.inner.Moves.{state_of, opens_of, last_of, last_after, next_state, next_depth, Moved}
use Rattle.newick_reading.specs.inner.Moves.{NamesInside}
use Rattle.newick_reading.proofs.Moves.{state_if, state_next, state_right, step_moved, step_inside, moved_depth}
use Rattle.newick_reading.proofs.Moves.{Outside, follows_outside}
use Rattle.newick_reading.specs.inner.Naming.{names_so_far, opens_names, last_names}
use Rattle.newick_reading.proofs.Fitting.{fits_start}
use Rattle.newick_reading.proofs.Naming.{right_start}
use Rattle.newick_reading.proofs.Joining.{keeps_start}
use Rattle.rerooted_rows.specs.inner.Arrays.{backwards}
use Rattle.newick_states.specs.declared.State.{State}
use Rattle.newick_states.specs.declared.State.TheVariants.{Due, InName, Behind, BehindLength, AtLength, InLength, Ended}
use Rattle.newick_states.specs.inner.States.{number_of}
use Rattle.newick_parts.specs.declared.Kept.{Kept}
use Rattle.newick_parts.specs.inner.Keeping.{first_kept, KeptAt}
use Rattle.newick_parts.specs.inner.Parts.{Comes, Came}
use Rattle.name_index.specs.inner.Indexes.{FirstNames}
use Rattle.newick_text.specs.inner.Names.{word_at, flags, Indexed, NameMayEnd, NameEnded}
use Rattle.newick_text.specs.inner.Texts.{next_from, next_hash, kept_refusal, NameSoFar, ReadTo, Ready}
use Rattle.newick_text.proofs.TakenNames.{name_kept}

-- The numbers of the states that code keeps.
pub unbroken : (s : State) → number_of s ≢ 7
unbroken Due e = omega arith
unbroken InName e = omega arith
unbroken Behind e = omega arith
unbroken BehindLength e = omega arith
unbroken AtLength e = omega arith
unbroken InLength e = omega arith
unbroken Ended e = omega arith

pub not_ended : (s : State) → s ≢ Ended → number_of s ≢ 6
not_ended Due d e = omega arith
not_ended InName d e = omega arith
not_ended Behind d e = omega arith
not_ended BehindLength d e = omega arith
not_ended AtLength d e = omega arith
not_ended InLength d e = omega arith
not_ended Ended d e = d refl

module _ (n : ℕ) (K : Kept) where
  pub not_binary : K.binary ≡ false → Err NotBinary ≡ outcome_of (kept_refusal n K)
  unfolding kept_refusal refuse judged outcome_of
  not_binary f = rw f

  module _ (t : K.binary ≡ true) where
    pub not_named : K.named ≡ false → Err Unmatched ≡ outcome_of (kept_refusal n K)
    unfolding kept_refusal refuse judged outcome_of
    not_named f = rw (t, f)

    pub not_all : K.named ≡ true → K.many ≢ n → Err Unmatched ≡ outcome_of (kept_refusal n K)
    unfolding kept_refusal refuse judged outcome_of
    not_all u d = rw (t, u, ne_eqb K.many n d)

    pub all_right : K.named ≡ true → K.many ≡ n → Ok tt ≡ outcome_of (kept_refusal n K)
    unfolding kept_refusal refuse judged outcome_of
    all_right u e = rw (t, u, eq-eqb K.many n e)

-- The name that the reader is in.

-- a place that is in no name
outside_name :
    (Q : Place) (t : List ℕ) (from k hash : ℕ) → eqb (state_of Q) 1 ≡ false → NameSoFar Q t from k hash
unfolding state_of
outside_name (due s) t from k hash o = tt
outside_name (in_name s x) t from k hash o = absurd (never {b = true} refl o)
outside_name (behind s may d) t from k hash o = tt
outside_name (at_length s d) t from k hash o = tt
outside_name (in_length s d) t from k hash o = tt
outside_name (ended d) t from k hash o = tt

module _ (t : List ℕ) (k : ℕ) (low : k < length t) where
  abbrev b : ℕ
  b = get_or t k 0

  word_begins : word_at t k (k + 1) ≡ get_or t k 0 ∷ []
  word_begins =
      let one_more : k + 1 - k ≡ 1 = omega arith in
      rw (one_more, drop-cons t k 0 low)

  pub word_goes_on : (from : ℕ) → from ≤ k → word_at t from (k + 1) ≡ word_at t from k ++ (get_or t k 0 ∷ [])
  word_goes_on from h =
      let more : k + 1 - from ≡ suc (k - from) = omega arith in
      let here : from + (k - from) ≡ k = omega arith in
      let inside : k - from < length (drop from t) = omega (arith, length-drop from t) in
      rw (more, take-suc (drop from t) (k - from) 0 inside, get_or-drop from t (k - from) 0, here)

  -- behind the next byte
  abbrev After : (state from hash : ℕ) → Place → Type 0
  After state from hash Q =
      NameSoFar Q t (next_from state from k) (k + 1) (next_hash state (state_of Q) hash (get_or t k 0))

  after_follows :
      (state from hash : ℕ) (s : List Open) (may : Bool) (d : Drawing)
      → If (After state from hash) (follows s may d (get_or t k 0))
  after_follows state from hash s may d =
      if_map (Outside deepest) (After state from hash)
      (λ Q o. outside_name Q t (next_from state from k) (k + 1) (next_hash state (state_of Q) hash b) o)
      (follows s may d b) (follows_outside deepest s may d b)

  name_after :
      (P : Place) (from hash : ℕ) → NameSoFar P t from k hash
      → If (After (state_of P) from hash) (step deepest P (get_or t k 0))
  unfolding step state_of next_from next_hash hash_from
  name_after (due s) from hash h =
      let F = After 0 from hash in
      if_cond F (blank b) (due s) _ (λ _. tt)
      (if_cond F (eqb b opening && ltb (length s) deepest) (due (none ∷ s)) _ (λ _. tt)
      (if_cond F (name_byte b && inside s) (in_name s (b ∷ [])) none
      (λ _. (omega arith, sym word_begins, hash_begins)) tt))
    where
      hash_begins : hash_step 0 (get_or t k 0) ≡ hash_of (get_or t k 0 ∷ [])
      hash_begins = sym (hash_more [] b)
  name_after (in_name s x) from hash h =
      let F = After 1 from hash in
      if_cond F (name_byte b) (in_name s (x ++ (b ∷ []))) _
      (λ _. (omega (arith, h.0), rw h.1 (sym (word_goes_on from h.0)), rw h.2 (sym (hash_more x b))))
      (after_follows 1 from hash s true (named_drawing x))
  name_after (behind s true d) from hash h = after_follows 2 from hash s true d
  name_after (behind s false d) from hash h = after_follows 3 from hash s false d
  name_after (at_length s d) from hash h =
      if_cond (After 4 from hash) (length_byte b) (in_length s d) none (λ _. tt) tt
  name_after (in_length s d) from hash h =
      if_cond (After 5 from hash) (length_byte b) (in_length s d) _ (λ _. tt) (after_follows 5 from hash s false d)
  name_after (ended d) from hash h = if_cond (After 6 from hash) (blank b) (ended d) none (λ _. tt) tt

-- Before any byte.
no_flags : (m k : ℕ) → flags (replicate m false) k ≡ false
no_flags zero k = refl
no_flags (suc m) zero = refl
no_flags (suc m) (suc k) = no_flags m k

module _ {x : FirstNames} (D : Ready x) where
  abbrev none_seen : List Bool
  none_seen = replicate most_leaves false

  none_flagged : (k : ℕ) → flags none_seen k ≡ false
  none_flagged = no_flags most_leaves

  first_at : KeptAt (names_of x.sheet) x.many [] none first_kept (flags none_seen)
  unfolding names_so_far opens_names last_names
  first_at =
      let n = x.many in
      let known = names_of x.sheet in
      let z : 0 < n = omega (arith, D.count.0) in
      record {
        parts_long = length-replicate {A = ℕ} most_leaves 0;
        numbers_long = length-replicate {A = ℕ} most_leaves 0;
        rows_long = length-replicate {A = ℕ} most_numbers 0;
        chain_long = length-replicate {A = ℕ} most_leaves 0;
        fits_is = sym fits_start;
        ways_are = λ _. tt;
        names = record {
          right = λ _. right_start known n (flags none_seen) none_flagged;
          wrong = λ f. absurd (never refl f);
        };
        built = λ _ _. record {
          of_opens = [];
          opens_held = tt;
          keeps = unfold backwards in keeps_start known n z 0 (flags none_seen) none_flagged;
        };
      }

  pub read_start : (t : List ℕ) → ReadTo x.sheet t x.many 0 0 0 0 0 first_kept none_seen
  unfolding state_of opens_of last_of read
  read_start t = record {
    place = due [];
    state_is = refl;
    depth_is = refl;
    shallow = omega arith;
    inside = tt;
    reads_on = refl;
    within = omega arith;
    name_so_far = tt;
    hash_low = omega arith;
    seen_long = length-replicate most_leaves false;
    kept = first_at;
  }

-- One byte more.
in_a_name :
    (P : Place) (t : List ℕ) (from k hash : ℕ) → state_of P ≡ 1 → NameSoFar P t from k hash
    → (from ≤ k) × (hash ≡ hash_of (word_at t from k))
unfolding state_of
in_a_name (due s) t from k hash e h = absurd (omega arith)
in_a_name (in_name s x) t from k hash e h = (h.0, h.2 ∙ ap hash_of h.1)
in_a_name (behind s true d) t from k hash e h = absurd (omega arith)
in_a_name (behind s false d) t from k hash e h = absurd (omega arith)
in_a_name (at_length s d) t from k hash e h = absurd (omega arith)
in_a_name (in_length s d) t from k hash e h = absurd (omega arith)
in_a_name (ended d) t from k hash e h = absurd (omega arith)

moved_shallow :
    (limit b : ℕ) (s : List Open) (d : Option Drawing) (Q : Place) → Moved limit b s d Q → length s ≤ limit
    → length (opens_of Q) ≤ limit
unfolding next_depth
moved_shallow limit b s d Q M h = elim (bool? (eqb b opening)) [
  | inl t ↦
      let deep = moved_depth limit b s d Q M in
      omega (arith, rw t at deep, (M.by_opening (eqb-true b opening t)).1)
  | inr f ↦ elim (bool? (eqb b closing)) [
    | inl t ↦ omega (arith, rw (f, t) at (moved_depth limit b s d Q M))
    | inr g ↦ omega (arith, rw (f, g) at (moved_depth limit b s d Q M))
  ]
]

module _ {S t : List ℕ} {n state depth from hash k : ℕ} {K : Kept} {seen : List Bool} (count : IsLeafCount n)
    (strains : Strains n (names_of S))
    (R : ReadTo S t n state depth from hash k K seen) where
  abbrev known : List (List ℕ)
  known = names_of S

  pub name_may_end :
      (x : FirstNames) → Indexed x → n ≡ x.many → NameMayEnd x t state from k hash K seen
  name_may_end x I e = record {
    from_in = λ q. (in_a_name R.place t from k hash (R.state_is ∙ q) R.name_so_far).0;
    within = λ _. R.within;
    fits = λ q.
        record {
          indexed = I;
          few = rw (← e) count.1;
          hash_is = (in_a_name R.place t from k hash (R.state_is ∙ q) R.name_so_far).1;
          many_low = λ u.
              omega (arith, (R.kept.names.right u).many_is, count_le n (flags seen), count.1);
          seen_long = R.seen_long;
        };
  }

  after_is : (b : ℕ) → state_if (step deepest R.place b) ≡ next_state deepest state depth b
  after_is b = state_next deepest R.place b ∙ rw (R.state_is, ← R.depth_is)

  at_byte : k < length t → read_on deepest R.place k (get_or t k 0 ∷ drop (suc k) t) ≡ read deepest t
  at_byte l = rw (drop-cons t k 0 l) at R.reads_on

  -- the next byte breaks the text
  pub breaks_here :
      (after : ℕ) → k < length t → after ≡ next_state deepest state depth (get_or t k 0) → after ≡ 7
      → read deepest t ≡ breaks k
  unfolding read_on state_if
  breaks_here after l is e = go (step deepest R.place (get_or t k 0)) refl
    where
      go : (o : Option Place) → step deepest R.place (get_or t k 0) ≡ o → read deepest t ≡ breaks k
      go none h = sym (at_byte l) ∙ rw (h, read_on)
      go (some Q) h = absurd (state_right Q (ap state_if (sym h) ∙ after_is (get_or t k 0) ∙ sym is ∙ e))

  -- or leads on
  pub leads_on :
      next_state deepest state depth (get_or t k 0) ≢ 7
      → (Q : Place) × (step deepest R.place (get_or t k 0) ≡ some Q)
      × (state_of Q ≡ next_state deepest state depth (get_or t k 0))
  unfolding state_if
  leads_on e = go (step deepest R.place (get_or t k 0)) refl
    where
      go :
          (o : Option Place) → step deepest R.place (get_or t k 0) ≡ o
          → (Q : Place) × (step deepest R.place (get_or t k 0) ≡ some Q)
          × (state_of Q ≡ next_state deepest state depth (get_or t k 0))
      go none h = absurd (e (sym (after_is (get_or t k 0)) ∙ ap state_if h))
      go (some Q) h = (Q, h, ap state_if (sym h) ∙ after_is (get_or t k 0))

  -- behind a name that the byte ends
  settled :
      (after : ℕ) (K' : Kept) (seen' : List Bool)
      → NameEnded (names_of S) n (word_at t from k) state after K seen K' seen'
      → KeptAt (names_of S) n (opens_of R.place) (last_after R.place after) K' (flags seen')
      × (length seen' ≡ most_leaves)
  unfolding state_of opens_of last_of last_after
  settled after K' seen' E =
      go R.place R.state_is R.inside R.name_so_far R.kept
    where
      same :
          (s : List Open) (d : Option Drawing) → (K' ≡ K) × (seen' ≡ seen)
          → KeptAt known n s d K (flags seen)
          → KeptAt known n s d K' (flags seen') × (length seen' ≡ most_leaves)
      same s d e A = rw (e.0, e.1) (A, R.seen_long)

      go :
          (P : Place) → state_of P ≡ state → NamesInside P → NameSoFar P t from k hash
          → KeptAt known n (opens_of P) (last_of P) K (flags seen)
          → KeptAt known n (opens_of P) (last_after P after) K' (flags seen')
          × (length seen' ≡ most_leaves)
      go (in_name s x) e i h A = elim (ℕ_discrete after 1) [
        | yes q ↦ rw q (same s none (E.inside q) A)
        | no d ↦
            let word = h.1 in
            let z : 0 < n = omega (arith, count.0) in
            rw (ne_eqb after 1 d, word)
            (name_kept (word_at t from k) seen z count.1 strains.many i R.seen_long A (E.ended (sym e) d))
      ]
      go (due s) e i h A = same s none (E.outside (λ q. omega arith)) A
      go (behind s true d) e i h A = same s (some d) (E.outside (λ q. omega arith)) A
      go (behind s false d) e i h A = same s (some d) (E.outside (λ q. omega arith)) A
      go (at_length s d) e i h A = same s (some d) (E.outside (λ q. omega arith)) A
      go (in_length s d) e i h A = same s (some d) (E.outside (λ q. omega arith)) A
      go (ended d) e i h A = same [] (some d) (E.outside (λ q. omega arith)) A

  module _ (after : ℕ) (low : k < length t) (is : after ≡ next_state deepest state depth (get_or t k 0))
      (right : after ≢ 7) {K₁ : Kept} {seen₁ : List Bool}
      (E : NameEnded (names_of S) n (word_at t from k) state after K seen K₁ seen₁) where
    next_place : (Q : Place) × (step deepest R.place (get_or t k 0) ≡ some Q) × (state_of Q ≡ after)
    next_place = let l = leads_on (λ q. right (is ∙ q)) in (l.0, l.1, l.2 ∙ sym is)

    moved : Moved deepest (get_or t k 0) (opens_of R.place) (last_after R.place after) next_place.0
    moved =
        let l = next_place in
        rw l.2 at (step_moved deepest R.place l.0 (get_or t k 0) l.1)

    pub byte_comes : Comes (get_or t k 0) n depth K₁
    byte_comes = record {
      count = count;
      shallow = omega (arith, R.shallow);
      known = names_of S;
      opens = opens_of R.place;
      last = last_after R.place after;
      next = next_place.0;
      seen = flags seen₁;
      depth_is = R.depth_is;
      kept = (settled after K₁ seen₁ E).0;
      moved = moved;
    }

    pub read_more :
        {K₂ : Kept}
        → Came (get_or t k 0) n depth K₁ K₂
        → next_hash state after hash (get_or t k 0) < hashes
        → ReadTo S t n after (next_depth depth (get_or t k 0)) (next_from state from k)
        (next_hash state after hash (get_or t k 0)) (k + 1) K₂ seen₁
    unfolding read_on
    read_more C small =
        let l = next_place in
        let b = get_or t k 0 in
        let st = settled after K₁ seen₁ E in
        let deep : next_depth depth b ≡ next_depth (length (opens_of R.place)) b =
        ap (λ x. next_depth x b) R.depth_is in
        let depth_next = moved_depth deepest b (opens_of R.place) (last_after R.place after) l.0 moved in
        let named = name_after t k low R.place from hash R.name_so_far in
        let so_far : NameSoFar l.0 t (next_from (state_of R.place) from k) (k + 1)
        (next_hash (state_of R.place) (state_of l.0) hash b) = rw l.1 at named in
        record {
          place = l.0;
          state_is = l.2;
          depth_is = deep ∙ sym depth_next;
          shallow =
              omega (
                arith,
                deep,
                depth_next,
                moved_shallow deepest b (opens_of R.place) (last_after R.place after) l.0 moved
                    (omega (arith, R.depth_is, R.shallow)),
              );
          inside = step_inside deepest R.place l.0 b R.inside l.1;
          reads_on = rw (add-one k) (rw (l.1, read_on) at (at_byte low));
          within = omega arith;
          name_so_far = rw (R.state_is, l.2) at so_far;
          hash_low = small;
          seen_long = st.1;
          kept =
              C (names_of S) (opens_of R.place) (last_after R.place after) l.0 (flags seen₁) R.depth_is
              st.0 moved;
        }

  -- At the end of the text.
  at_its_end : length t ≤ k → at_end R.place k ≡ read deepest t
  unfolding read_on
  at_its_end l = rw (drop_of_length-le t l) at R.reads_on

  -- it stops early
  pub ends_early : length t ≤ k → state ≢ 6 → read deepest t ≡ breaks k
  unfolding state_of at_end
  ends_early l d = go R.place R.state_is (at_its_end l)
    where
      go : (P : Place) → state_of P ≡ state → at_end P k ≡ read deepest t → read deepest t ≡ breaks k
      go (due s) e h = sym h
      go (in_name s x) e h = sym h
      go (behind s may d') e h = sym h
      go (at_length s d') e h = sym h
      go (in_length s d') e h = sym h
      go (ended d') e h = absurd (d (sym e))

  -- or is read, and this is kept of it
  pub ends_whole :
      length t ≤ k → state ≡ 6
      → (d : Drawing) × (read deepest t ≡ draws d)
      × KeptAt (names_of S) n [] (some d) K (flags seen)
  unfolding state_of at_end opens_of last_of
  ends_whole l q = go R.place R.state_is (at_its_end l) R.kept
    where
      go :
          (P : Place) → state_of P ≡ state → at_end P k ≡ read deepest t
          → KeptAt (names_of S) n (opens_of P) (last_of P) K (flags seen)
          → (d : Drawing) × (read deepest t ≡ draws d)
          × KeptAt (names_of S) n [] (some d) K (flags seen)
      go (due s) e h A = absurd (omega arith)
      go (in_name s x) e h A = absurd (omega arith)
      go (behind s true d) e h A = absurd (omega arith)
      go (behind s false d) e h A = absurd (omega arith)
      go (at_length s d) e h A = absurd (omega arith)
      go (in_length s d) e h A = absurd (omega arith)
      go (ended d) e h A = (d, sym h, A)
