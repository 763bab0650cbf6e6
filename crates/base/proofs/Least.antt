-- The least of the members of a list that pass a test, by an order that is transitive and puts nothing below itself:
-- where some member passes, there is a least one, and a search for the first such finds it.
use mathlib.Core.Path.{◌≡◌, refl}
use mathlib.Core.Logic.{inl, inr}
use mathlib.Core.Bool.{Bool, true, false, not, ◌&&◌, and-false, or-false}
use mathlib.Core.List.{List, [], ◌∷◌}
use mathlib.Core.Option.{Option, none, some}
use Prim.Native.Nat.{ℕ, suc, ◌<◌}
use native.Mathlib.Omega.{arith}
use borrow.Author.Tests.{not-true}
use lib.ListN.{length, get_or}
use Rattle.base.specs.Lists.{any_in, all_in, find}
use Rattle.base.proofs.Bools.{bool?, never, is_false, or_neither, and_both, and_is}
use Rattle.base.proofs.Lists.{find_none, every_imp}

-- of the members that pass the test u, none is less than p
abbrev pub none_less : {A : Type 0} → (A → Bool) → (A → A → Bool) → List A → A → Bool
none_less u under l p = all_in (λ q. not (u q && under q p)) l

module _ {A : Type 0} (u : A → Bool) (under : A → A → Bool)
    (trans : (x y z : A) → under x y ≡ true → under y z ≡ true → under x z ≡ true)
    (irr : (x : A) → under x x ≡ false) where
  -- where no member passes, none is less than x
  none_pass : (x : A) (l : List A) → any_in u l ≡ false → none_less u under l x ≡ true
  unfolding any_in all_in
  none_pass x [] h = refl
  none_pass x (y ∷ l) h =
      let r = or_neither (u y) (any_in u l) h in
      and_is (not (u y && under y x)) _ (rw r.0) (none_pass x l r.1)

  -- nor where x is less than p, than which none is less
  none_lower :
      (x p : A) (l : List A) → under x p ≡ true → none_less u under l p ≡ true → none_less u under l x ≡ true
  none_lower x p l h = every_imp (λ q. not (u q && under q p)) (λ q. not (u q && under q x)) l (λ q t.
      rw (is_false (u q && under q x) (λ s.
      let b = and_both (u q) (under q x) s in
      never (and_is _ _ b.0 (trans q x p b.1 h)) (not-true (u q && under q p) t))))

  -- x is not less than itself
  none_head : (x : A) (l : List A) → none_less u under l x ≡ true → none_less u under (x ∷ l) x ≡ true
  unfolding all_in
  none_head x l h = and_is (not (u x && under x x)) _ (rw (irr x, and-false (u x))) h

  -- where a member passes, there is a least one
  least_at :
      (l : List A) (d : A) → any_in u l ≡ true
      → (k : ℕ) × (k < length l) × (u (get_or l k d) ≡ true) × (none_less u under l (get_or l k d) ≡ true)
  unfolding any_in all_in
  least_at [] d h = absurd (never h refl)
  least_at (x ∷ l) d h = elim (bool? (any_in u l)) [
    | inr f ↦ (0, omega arith, rw (f, or-false (u x)) at h, none_head x l (none_pass x l f))
    | inl a ↦
        let r = least_at l d a in
        let p = get_or l r.0 d in
        elim (bool? (u x && under x p)) [
          | inl y ↦
              let b = and_both (u x) (under x p) y in
              (0, omega arith, b.0, none_head x l (none_lower x p l b.1 r.3))
          | inr y ↦ (suc r.0, omega (arith, r.1), r.2, and_is (not (u x && under x p)) _ (rw y) r.3)
        ]
  ]

  -- so a search for one finds one
  pub least_found :
      (l : List A) → A → any_in u l ≡ true → (p : A) × (find (λ p. u p && none_less u under l p) l ≡ some p)
  least_found l d h = by (find test l) refl
    where
      test : A → Bool
      test p = u p && none_less u under l p

      by : (o : Option A) → find test l ≡ o → (p : A) × (find test l ≡ some p)
      by (some p) e = (p, e)
      by none e =
          let r = least_at l d h in
          absurd (never (and_is _ _ r.2 r.3) (find_none test l e r.0 d r.1))
