-- A run of bytes that are read in one go leaves what is kept as it is: in a name the reader stays in it, elsewhere it
-- stays where it is. By induction on how many bytes the run has.
use mathlib.Core.Path.{◌≡◌, refl, sym}
use mathlib.Core.Logic.{◌≢◌}
use mathlib.Core.Bool.{Bool, true, false}
use mathlib.Core.List.{List, [], ◌∷◌, ◌++◌}
use mathlib.Core.Option.{some}
use Prim.Native.Nat.{ℕ, zero, suc, ◌+◌, ◌-◌, ◌≤◌, ◌<◌}
use native.Mathlib.Nat.{add-zero}
use native.Mathlib.Numerals.{add-one}
use native.Mathlib.Omega.{arith}
use native.Mathlib.Decide.{ℕ_discrete}
use lib.ListN.{length, get_or, drop}
use lib.Seq.{drop-cons}
use Rattle.base.proofs.Bools.{never}
use Rattle.sheet_rules.specs.Sheets.{name_byte, names_of}
use Rattle.newick_rules.specs.Reader.{follows, step}
use Rattle.newick_rules.specs.Reader.{Place, due, in_name, behind, at_length, in_length, ended, read_on, read}
use Rattle.newick_rules.specs.Importing.{deepest}
use Rattle.name_index.specs.inner.Hashes.{hash_step, hash_from}
use Rattle.name_index.proofs.Hashes.{hash_more, hash_small}
use Rattle.newick_reading.specs.inner.Moves.{state_of, opens_of, last_of, NamesInside}
use Rattle.newick_parts.specs.declared.Kept.{Kept}
use Rattle.newick_parts.specs.inner.Keeping.{KeptAt}
use Rattle.newick_runs.specs.declared.Run.{Run}
use Rattle.newick_runs.specs.inner.Runs.{stays, hash_over, Passed, Ran}
use Rattle.newick_text.specs.inner.Names.{flags}
use Rattle.newick_text.specs.inner.Texts.{NameSoFar, ReadTo}
use Rattle.newick_text.proofs.Texts.{word_goes_on}

-- a byte of such a run, where the reader is in no name
stays_there :
    (P : Place) (b : ℕ) → stays (state_of P) b ≡ true → (step deepest P b ≡ some P) × (state_of P ≢ 1)
unfolding stays state_of step follows
stays_there (due s) b h = (rw h, λ e. omega arith)
stays_there (in_name s x) b h = absurd (never h refl)
stays_there (behind s true d) b h = (rw h, λ e. omega arith)
stays_there (behind s false d) b h = (rw h, λ e. omega arith)
stays_there (at_length s d) b h = absurd (never h refl)
stays_there (in_length s d) b h = (rw h, λ e. omega arith)
stays_there (ended d) b h = (rw h, λ e. omega arith)

no_name :
    (P : Place) (t : List ℕ) (from k hash from' k' hash' : ℕ) → state_of P ≢ 1 → NameSoFar P t from k hash
    → NameSoFar P t from' k' hash'
unfolding state_of
no_name (due s) t from k hash from' k' hash' d h = tt
no_name (in_name s x) t from k hash from' k' hash' d h = absurd (d refl)
no_name (behind s may e) t from k hash from' k' hash' d h = tt
no_name (at_length s e) t from k hash from' k' hash' d h = tt
no_name (in_length s e) t from k hash from' k' hash' d h = tt
no_name (ended e) t from k hash from' k' hash' d h = tt

module _ {S t : List ℕ} {n state depth from : ℕ} {K : Kept} {seen : List Bool} where
  -- places and hashes that are the same
  read_same :
      {k k' hash hash' : ℕ} → k ≡ k' → hash ≡ hash'
      → ReadTo S t n state depth from hash k K seen
      → ReadTo S t n state depth from hash' k' K seen
  read_same e f R = rw (e, f) at R

  one_stays :
      (k hash : ℕ) → k < length t → stays state (get_or t k 0) ≡ true
      → ReadTo S t n state depth from hash k K seen
      → ReadTo S t n state depth from hash (k + 1) K seen
  unfolding read_on
  one_stays k hash l h R =
      let s = stays_there R.place (get_or t k 0) (rw R.state_is h) in
      let on = rw (drop-cons t k 0 l) at R.reads_on in
      record {
        place = R.place;
        state_is = R.state_is;
        depth_is = R.depth_is;
        shallow = R.shallow;
        inside = R.inside;
        reads_on = rw (add-one k) (rw (s.0, read_on) at on);
        within = omega arith;
        name_so_far = no_name R.place t from k hash from (k + 1) hash s.1 R.name_so_far;
        hash_low = R.hash_low;
        seen_long = R.seen_long;
        kept = R.kept;
      }

  stays_on :
      (many k hash : ℕ) → Passed (stays state) t k (k + many)
      → ReadTo S t n state depth from hash k K seen
      → ReadTo S t n state depth from hash (k + many) K seen
  stays_on zero k hash P R = read_same (sym (add-zero k)) refl R
  stays_on (suc many) k hash P R =
      let next : (k + many) + 1 ≡ k + suc many = omega arith in
      let before = stays_on many k hash
      (record { low = omega arith; high = omega (arith, P.high); each = λ j a b. P.each j a (omega arith) }) R in
      read_same next refl
      (one_stays (k + many) hash (omega (arith, P.high)) (P.each (k + many) (omega arith) (omega arith)) before)

  -- one more byte of a name
  one_named :
      (k hash : ℕ) → state ≡ 1 → k < length t → name_byte (get_or t k 0) ≡ true
      → ReadTo S t n state depth from hash k K seen
      → ReadTo S t n state depth from (hash_step hash (get_or t k 0)) (k + 1) K seen
  unfolding state_of step read_on opens_of last_of hash_from
  one_named k hash e l h R =
      go R.place R.state_is R.depth_is R.inside R.reads_on R.name_so_far R.kept
    where
      go :
          (P : Place) → state_of P ≡ state → depth ≡ length (opens_of P) → NamesInside P
          → read_on deepest P k (drop k t) ≡ read deepest t → NameSoFar P t from k hash
          → KeptAt (names_of S) n (opens_of P) (last_of P) K (flags seen)
          → ReadTo S t n state depth from (hash_step hash (get_or t k 0)) (k + 1) K seen
      go (in_name s x) st dp i on name kept =
          let b = get_or t k 0 in
          let there : step deepest (in_name s x) b ≡ some (in_name s (x ++ (b ∷ []))) = rw h in
          let on' = rw (drop-cons t k 0 l) at on in
          record {
            place = in_name s (x ++ (b ∷ []));
            state_is = st;
            depth_is = dp;
            shallow = R.shallow;
            inside = i;
            reads_on = rw (add-one k) (rw (there, read_on) at on');
            within = omega arith;
            name_so_far = (
              omega (arith, name.0),
              rw name.1 (sym (word_goes_on t k l from name.0)),
              rw name.2 (sym (hash_more x b)),
            );
            hash_low = hash_small hash (b ∷ []) R.hash_low;
            seen_long = R.seen_long;
            kept = kept;
          }
      go (due s) st dp i on name kept = absurd (omega arith)
      go (behind s true d) st dp i on name kept = absurd (omega arith)
      go (behind s false d) st dp i on name kept = absurd (omega arith)
      go (at_length s d) st dp i on name kept = absurd (omega arith)
      go (in_length s d) st dp i on name kept = absurd (omega arith)
      go (ended d) st dp i on name kept = absurd (omega arith)

  names_on :
      (many k hash : ℕ) → state ≡ 1 → Passed name_byte t k (k + many)
      → ReadTo S t n state depth from hash k K seen
      → ReadTo S t n state depth from (hash_over t k many hash) (k + many) K seen
  unfolding hash_over
  names_on zero k hash e P R = read_same (sym (add-zero k)) refl R
  names_on (suc many) k hash e P R =
      let next : (k + many) + 1 ≡ k + suc many = omega arith in
      let before = names_on many k hash e
      (record { low = omega arith; high = omega (arith, P.high); each = λ j a b. P.each j a (omega arith) }) R in
      read_same next refl
      (one_named (k + many) (hash_over t k many hash) e (omega (arith, P.high))
      (P.each (k + many) (omega arith) (omega arith)) before)

  -- a run
  pub ran_on :
      {k hash : ℕ} (r : Run) → Ran state t k hash r
      → ReadTo S t n state depth from hash k K seen
      → ReadTo S t n state depth from r.hash r.to K seen
  ran_on {k} {hash} r X R = elim (ℕ_discrete state 1) [
    | yes e ↦
        let N = X.names e in
        let P = N.passed in
        read_same (sym N.end) (sym N.hash_is) (names_on N.many k hash e (rw N.end at P) R)
    | no d ↦
        let o = X.others d in
        let P = o.0 in
        let many : r.to ≡ k + (r.to - k) = omega (arith, P.low) in
        read_same (sym many) (sym o.1) (stays_on (r.to - k) k hash (rw many at P) R)
  ]

pub ran_low : {state : ℕ} {t : List ℕ} {k hash : ℕ} (r : Run) → Ran state t k hash r → k ≤ r.to
ran_low {state} r X = elim (ℕ_discrete state 1) [
  | yes e ↦ (X.names e).passed.low
  | no d ↦ (X.others d).0.low
]
