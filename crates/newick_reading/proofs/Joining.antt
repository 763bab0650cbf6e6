-- What is kept of a text stays kept: when a name is read, a bracket opened, a part joined to those before it, a bracket
-- closed.
use mathlib.Core.Path.{◌≡◌, refl, sym}
use mathlib.Core.Logic.{inl, inr}
use mathlib.Core.Bool.{Bool, true, false, not, ◌&&◌, ◌||◌}
use mathlib.Core.List.{List, [], ◌∷◌}
use mathlib.Core.Option.{none, some}
use Prim.Native.Nat.{ℕ, ◌+◌, ◌<◌}
use native.Mathlib.Omega.{arith}
use native.Mathlib.Decide.{ℕ_discrete}
use borrow.Author.Tests.{ltb-true, ne_eqb, lt-ltb}
use lib.Dec.{ltb, eqb}
use Rattle.base.specs.Numbers.{indicator}
use Rattle.base.proofs.Bools.{bool?, or_neither, eqb_same}
use Rattle.trees.specs.Trees.{Tree, leaf, leaves}
use Rattle.trees.specs.Listings.{subtree_at}
use Rattle.trees.specs.inner.Forests.{unused, uses, lawful}
use Rattle.trees.proofs.SubtreesByRow.{subtree_at_leaf}
use Rattle.sheet_rules.specs.Sheets.{leaf_named}
use Rattle.newick_rules.specs.Drawings.{Drawing, name, bracket, Parts, one, more}
use Rattle.newick_rules.specs.Reader.{Open}
use Rattle.newick_rules.specs.Importing.{subtree, subtree_of_parts}
use Rattle.rerooted_rows.specs.inner.Joining.{copies, joined_number, joined_chain, joined_rows, joined_count, Stands}
use Rattle.rerooted_rows.specs.inner.Joining.{unseen}
use Rattle.rerooted_rows.proofs.Joining.{copies_here, copies_more, joint}
use Rattle.newick_reading.specs.inner.Joining.{OpensStand, numbers_of_opens, number_of_last, Keeps}

-- what the numbers of the open brackets stand for, if each stands for the same after as before
opens_keep :
    (known : List (List ℕ)) (f g : ℕ → Tree) (chain chain' : List ℕ) (s : List Open) (l : List ℕ)
    → ((y : ℕ) (T : Tree) → 0 < copies y (numbers_of_opens s l) → Stands f chain y T → Stands g chain' y T)
    → OpensStand known f chain s l → OpensStand known g chain' s l
unfolding numbers_of_opens
opens_keep known f g chain chain' [] [] k h = tt
opens_keep known f g chain chain' [] (a ∷ l) k h = h
opens_keep known f g chain chain' (o ∷ s) [] k h = h
opens_keep known f g chain chain' (none ∷ s) (a ∷ l) k h = opens_keep known f g chain chain' s l k h
opens_keep known f g chain chain' (some p ∷ s) (a ∷ l) k h = (
  k a (subtree_of_parts known p) (copies_here a (numbers_of_opens s l)) h.0,
  opens_keep known f g chain chain' s l (λ y T c. k y T (copies_more y a (numbers_of_opens s l) c)) h.1,
)

-- What is kept of a text, event by event.
module _ (known : List (List ℕ)) (n : ℕ) (z : 0 < n) where
  -- before any byte
  pub keeps_start :
      (last : ℕ) (seen : ℕ → Bool) → ((k : ℕ) → seen k ≡ false) → Keeps known n [] none [] last 0 [] [] seen
  unfolding numbers_of_opens number_of_last copies unseen uses unused lawful
  keeps_start last seen h = record {
    accounted = record {
      long = refl;
      kept = refl;
      each_once = λ x. rw (h x) (elim (ℕ_discrete x 0) [
        | yes e ↦ rw (e, lt-ltb 0 n z)
        | no d ↦ rw (ne_eqb x 0 d, lt-ltb 0 x (omega arith)) (cut (ltb x n))
      ]);
      no_zero = refl;
      fresh = λ e. refl;
    };
    opens = tt;
    lasts = tt;
  }
    where
      cut : (b : Bool) → 0 + indicator (b && true) 1 ≡ indicator b 1
      cut true = refl
      cut false = refl

  module _ (s : List Open) (numbers : List ℕ) (last m : ℕ) (rows chain : List ℕ) (seen : ℕ → Bool) where
    -- a bracket opens
    pub keeps_open :
        (a : ℕ) → Keeps known n s none numbers last m rows chain seen
        → Keeps known n (none ∷ s) none (a ∷ numbers) last m rows chain seen
    unfolding numbers_of_opens
    keeps_open a K = record { accounted = K.accounted; opens = K.opens; lasts = tt }

    -- a bracket closes: it is the last drawing, and has the number of its parts
    pub keeps_close :
        (q : Parts) (a : ℕ) → Keeps known n (some q ∷ s) none (a ∷ numbers) last m rows chain seen
        → Keeps known n s (some (bracket q)) numbers a m rows chain seen
    unfolding numbers_of_opens number_of_last subtree
    keeps_close q a K = record { accounted = K.accounted; opens = K.opens.1; lasts = K.opens.0 }

    -- a first part
    pub keeps_first :
        (d : Drawing) (a : ℕ) → Keeps known n (none ∷ s) (some d) (a ∷ numbers) last m rows chain seen
        → Keeps known n (some (one d) ∷ s) none (last ∷ numbers) last m rows chain seen
    unfolding numbers_of_opens number_of_last subtree
    keeps_first d a K = record { accounted = K.accounted; opens = (K.lasts, K.opens); lasts = tt }

    -- one more part
    pub keeps_more :
        (p : Parts) (d : Drawing) (a : ℕ) → Keeps known n (some p ∷ s) (some d) (a ∷ numbers) last m rows chain seen
        → Keeps known n (some (more p d) ∷ s) none (joined_number n m a last ∷ numbers) last (joined_count a last m)
        (joined_rows a last rows) (joined_chain a last chain) seen
    unfolding numbers_of_opens number_of_last subtree
    keeps_more p d a K =
        let J = joint z (numbers_of_opens s numbers) (subtree_of_parts known p) (subtree known d) a last
        K.accounted K.opens.0 K.lasts in
        record {
          accounted = J.accounted;
          opens = (
            J.stands,
            opens_keep known (subtree_at n rows) (subtree_at n (joined_rows a last rows)) chain
                (joined_chain a last chain) s numbers J.others K.opens.1,
          );
          lasts = tt;
        }

    -- a name of a leaf that was not named before
    module _ (x : List ℕ) (seen' : ℕ → Bool) (low : leaf_named known x < n) (new : seen (leaf_named known x) ≡ false)
        (sees : (k : ℕ) → k < n → seen' k ≡ (eqb k (leaf_named known x) || seen k))
        (K : Keeps known n s none numbers last m rows chain seen) where
      abbrev i : ℕ
      i = leaf_named known x

      -- the leaf was unseen before, and is the last drawing's number now
      named_once :
          (k : ℕ) → indicator (eqb k i) 1 + indicator (unseen n seen' k) 1 ≡ indicator (unseen n seen k) 1
      unfolding unseen
      named_once k = elim (ℕ_discrete k i) [
        | yes e ↦ rw (e, sees i low, eqb_same i, new, lt-ltb i n low)
        | no d ↦ elim (bool? (ltb k n)) [
          | inl l ↦ rw (l, sees k (ltb-true k n l), ne_eqb k i d) (omega arith)
          | inr g ↦ rw (g, ne_eqb k i d) (omega arith)
        ]
      ]

      leaf_stands : Stands (subtree_at n rows) chain i (leaf i)
      unfolding leaves
      leaf_stands = elim (ℕ_discrete i 0) [
        | yes e ↦ inr (rw e, e, (e, K.accounted.fresh (rw e at new)))
        | no d ↦ inl (ne_eqb 0 i (λ e. d (sym e)), subtree_at_leaf n rows i low)
      ]

      pub keeps_name : Keeps known n s (some (name x)) numbers (leaf_named known x) m rows chain seen'
      unfolding number_of_last subtree copies
      keeps_name = record {
        accounted = record {
          long = K.accounted.long;
          kept = K.accounted.kept;
          each_once = λ k. omega (arith, K.accounted.each_once k, named_once k);
          no_zero = K.accounted.no_zero;
          fresh = λ e. K.accounted.fresh (before (rw (sees 0 z) at e));
        };
        opens = K.opens;
        lasts = leaf_stands;
      }
        where
          before : (eqb 0 i || seen 0) ≡ false → seen 0 ≡ false
          before h = (or_neither (eqb 0 i) (seen 0) h).1
