-- The hash of a text as a loop takes it in: what the bytes left make of the hash so far is the hash of all.
use Rattle.std.specs.Prelude.{Option, Some, None}
use mathlib.Core.Path.{◌≡◌, refl, sym, ◌∙◌}
use mathlib.Core.Logic.{inl, inr}
use mathlib.Core.Bool.{Bool, true, false}
use mathlib.Core.List.{List, [], ◌∷◌, ◌++◌}
use Prim.Native.Nat.{ℕ, ◌+◌, ◌≤◌, ◌<◌}
use native.Mathlib.Nat.{mod-lt}
use native.Mathlib.Omega.{arith}
use lib.ListN.{length, get_or, drop, drop_of_length-le}
use Rattle.base.proofs.Bools.{bool?, is_false}
use Rattle.name_index.specs.inner.Hashes.{hashes, hash_step, hash_from, hash_of, hash_if}
use Rattle.name_index.proofs.Parts.{rest_next}

pub hash_turn :
    (S : List ℕ) (k h : ℕ) → k < length S
    → hash_from h (drop k S) ≡ hash_from (hash_step h (get_or S k 0)) (drop (k + 1) S)
unfolding hash_from
hash_turn S k h l = rw (rest_next S k l)

pub hash_end : (S : List ℕ) (k h : ℕ) → length S ≤ k → hash_from h (drop k S) ≡ h
unfolding hash_from
hash_end S k h l = rw (drop_of_length-le S l)

-- a hash is one of so many
pub hash_small : (h : ℕ) (x : List ℕ) → h < hashes → hash_from h x < hashes
unfolding hash_from hash_step
hash_small h [] l = l
hash_small h (b ∷ x) l = hash_small (hash_step h b) x (mod-lt _ (omega arith))

-- where the test fails and where it passes; and which of both it was
module _ {pass : Bool} (x : List ℕ) where
  pub hash_failed : pass ≡ false → None ≡ hash_if pass x
  unfolding hash_if
  hash_failed e = rw e

  pub hash_passed : {h : ℕ} → pass ≡ true → h ≡ hash_of x → Some h ≡ hash_if pass x
  unfolding hash_if
  hash_passed e l = rw (e, l)

  pub failed_hash : {o : Option ℕ} → o ≡ hash_if pass x → o ≡ None → pass ≡ false
  unfolding hash_if
  failed_hash e n = is_false pass (λ t.
      let f : ◌≡◌ {A = Option ℕ} None (Some (hash_of x)) = sym n ∙ rw t at e in
      let z : ◌≡◌ {A = ℕ} 0 1 = cc in omega arith)

  pub passed_hash : {o : Option ℕ} {h : ℕ} → o ≡ hash_if pass x → o ≡ Some h → (pass ≡ true) × (h ≡ hash_of x)
  unfolding hash_if
  passed_hash e n = elim (bool? pass) [
    | inl t ↦ (t, (let f : Some _ ≡ Some (hash_of x) = sym n ∙ rw t at e in cc))
    | inr t ↦ absurd (let f : Some _ ≡ None = sym n ∙ rw t at e in let z : ◌≡◌ {A = ℕ} 0 1 = cc in omega arith)
  ]

-- one byte more, for a caller that reads the bytes one by one
hash_from_more : (h : ℕ) (x : List ℕ) (b : ℕ) → hash_from h (x ++ (b ∷ [])) ≡ hash_step (hash_from h x) b
unfolding hash_from
hash_from_more h [] b = refl
hash_from_more h (y ∷ x) b = hash_from_more (hash_step h y) x b

pub hash_more : (x : List ℕ) (b : ℕ) → hash_of (x ++ (b ∷ [])) ≡ hash_step (hash_of x) b
hash_more x b = hash_from_more 0 x b
