-- The leaf that has a name: where the name is one of those known, and the first place of it in a list by a rule.
use Rattle.std.specs.Prelude.{Option, Some, None, cond, is_some, position}
use Rattle.std.specs.List.{position_or_len}
use Rattle.std.proofs.lemmas.List.Recursion.{is_position_or_len}
use mathlib.Core.Path.{◌≡◌, refl, ap, sym, ◌∙◌}
use mathlib.Core.Logic.{inl, inr}
use mathlib.Core.Bool.{Bool, true, false}
use mathlib.Core.List.{List, [], ◌∷◌, ◌++◌}
use Prim.Native.Nat.{ℕ, zero, suc, ◌+◌, ◌≤◌, ◌<◌}
use native.Mathlib.Nat.{add-zero, zero-add}
use native.Mathlib.Omega.{arith}
use native.Mathlib.Decide.{dec_lt}
use borrow.Author.Tests.{ltb-true, lt-ltb, le-ltb}
use lib.Dec.{ltb}
use lib.ListN.{length}
use Rattle.base.specs.Lists.{tab, any_in}
use Rattle.base.proofs.Bools.{bool?, bool_iff, or_neither, never}
use Rattle.base.proofs.Lists.{length_tab, any_tab_found}
use Rattle.sheet_rules.specs.Sheets.{name, same, leaf_named}
use Rattle.sheet_rules.specs.Operations.{repeated}

ltb_suc : (a b : ℕ) → ltb (suc a) (suc b) ≡ ltb a b
ltb_suc a b =
    bool_iff (ltb (suc a) (suc b)) (ltb a b)
    (λ t. lt-ltb a b (omega (arith, ltb-true (suc a) (suc b) t)))
    (λ t. lt-ltb (suc a) (suc b) (omega (arith, ltb-true a b t)))

module _ (x : List ℕ) where
  -- some known name is this one where a leaf has it
  named_any : (l : List (List ℕ)) → any_in (same x) l ≡ ltb (leaf_named l x) (length l)
  unfolding any_in leaf_named
  named_any [] = refl
  named_any (y ∷ l) = elim (bool? (same x y)) [
    | inl t ↦ rw t (sym (lt-ltb 0 (suc (length l)) (omega arith)))
    | inr t ↦ rw t (named_any l ∙ sym (ltb_suc (leaf_named l x) (length l)))
  ]

  -- two lists of names, one after the other
  named_past :
      (l m : List (List ℕ)) → any_in (same x) l ≡ false → leaf_named (l ++ m) x ≡ length l + leaf_named m x
  unfolding any_in leaf_named
  named_past [] m h = sym (zero-add (leaf_named m x))
  named_past (y ∷ l) m h =
      let r = or_neither (same x y) (any_in (same x) l) h in
      rw r.0 (omega (arith, named_past l m r.1))

  named_before : (l m : List (List ℕ)) → any_in (same x) l ≡ true → leaf_named (l ++ m) x ≡ leaf_named l x
  unfolding any_in leaf_named
  named_before [] m h = absurd (never h refl)
  named_before (y ∷ l) m h = elim (bool? (same x y)) [
    | inl t ↦ rw t
    | inr t ↦ rw (t, named_before l m (rw t at h))
  ]

  -- the first place of it
  pub named_first :
      (f : ℕ → List ℕ) (k i : ℕ) → i < k → same x (f i) ≡ true → any_in (same x) (tab i f) ≡ false
      → leaf_named (tab k f) x ≡ i
  unfolding tab
  named_first f zero i l t h = absurd (omega arith)
  named_first f (suc k) i l t h = elim (dec_lt i k) [
    | yes l' ↦
        named_before (tab k f) (f k ∷ []) (any_tab_found (same x) f k i l' t) ∙ named_first f k i l' t h
    | no g ↦
        (let e : k ≡ i = omega arith in
        let here : leaf_named (f i ∷ []) x ≡ 0 = unfold leaf_named in rw t in
        rw (e, named_past (tab i f) (f i ∷ []) h, here, length_tab i f) (add-zero i))
  ]

-- the leaf that has a name, as it is found
leaf_position : (x : List ℕ) (known : List (List ℕ)) → leaf_named known x ≡ position_or_len (same x) known
unfolding leaf_named
leaf_position x = is_position_or_len (λ l. leaf_named l x) (same x) refl (λ y l. elim (bool? (same x y)) [
  | inl t ↦ rw t
  | inr f ↦ rw f (omega arith)
])

is_some_cond : (b : Bool) (i : ℕ) → is_some (cond b (Some i) None) ≡ b
is_some_cond true i = refl
is_some_cond false i = refl

module _ (known : List (List ℕ)) (x : List ℕ) where
  position_is :
      position (same x) known ≡ cond (ltb (leaf_named known x) (length known)) (Some (leaf_named known x)) None
  position_is = rw (leaf_position x known) refl

  -- it is found where it is one of those known
  pub found_here : {i : ℕ} → leaf_named known x ≡ i → i < length known → Some i ≡ position (same x) known
  found_here {i} e l = sym (position_is ∙ rw (e, lt-ltb i (length known) l))

  pub found_nowhere : leaf_named known x ≡ length known → None ≡ position (same x) known
  found_nowhere e = sym (position_is ∙ rw (e, le-ltb (length known) (length known) (omega arith)))

  any_found : any_in (same x) known ≡ is_some (position (same x) known)
  any_found =
      named_any x known
      ∙ sym (ap is_some position_is ∙ is_some_cond (ltb (leaf_named known x) (length known)) (leaf_named known x))

  module _ {o : Option ℕ} (e : o ≡ position (same x) known) where
    -- and what was found, or not, tells which leaf has the name
    pub named_found : {i : ℕ} → o ≡ Some i → (leaf_named known x ≡ i) × (i < length known)
    named_found {i} h = elim (dec_lt (leaf_named known x) (length known)) [
      | yes l ↦
          (let s : Some i ≡ Some (leaf_named known x) =
          sym h ∙ e ∙ position_is ∙ rw (lt-ltb (leaf_named known x) (length known) l) refl in
          let same_leaf : i ≡ leaf_named known x = cc in
          (sym same_leaf, omega arith))
      | no g ↦
          absurd (let s : Some i ≡ None =
          sym h ∙ e ∙ position_is ∙ rw (le-ltb (leaf_named known x) (length known) (omega arith)) refl in
          let z : ◌≡◌ {A = ℕ} 0 1 = cc in omega arith)
    ]

    pub named_nowhere : o ≡ None → length known ≤ leaf_named known x
    named_nowhere h = elim (dec_lt (leaf_named known x) (length known)) [
      | yes l ↦
          absurd (let s : None ≡ Some (leaf_named known x) =
          sym h ∙ e ∙ position_is ∙ rw (lt-ltb (leaf_named known x) (length known) l) refl in
          let z : ◌≡◌ {A = ℕ} 0 1 = cc in omega arith)
      | no g ↦ omega arith
    ]

-- leaf i's name equals an earlier one where it is found among them
pub repeated_found :
    (S : List ℕ) (i : ℕ) {o : Option ℕ} → o ≡ position (same (name S i)) (tab i (name S)) → repeated S i ≡ is_some o
unfolding repeated
repeated_found S i e = rw e (any_found (tab i (name S)) (name S i))
