-- What may be relied on of sets by the word (02, request 6): turning a set into words and back changes nothing, stray
-- bits among them; and each result is the one got byte by byte. The laws of words and of bytes are one, over the width.
use mathlib.Core.Path.{◌≡◌, refl, sym, ◌∙◌}
use mathlib.Core.Bool.{Bool, true}
use mathlib.Core.List.{List}
use Prim.Native.Nat.{ℕ, ◌*◌, ◌<◌}
use borrow.Author.Tests.{eq-eqb, eqb-true}
use lib.Bits.{bit_and, bit_or}
use lib.Dec.{eqb}
use lib.ListN.{get_or}
use lib.Pointwise.{pointwise, bytes_decides}
use lib.Seq.{ext_get_or}
use Rattle.base.specs.Numbers.{all_below}
use Rattle.base.specs.Lists.{tab}
use Rattle.base.specs.Bits.{in_cells, cells, AreCells}
use Rattle.base.proofs.Bits.{cells_same, cells_hold, cells_back, same_cells, cells_or, cells_and}
use Rattle.base.proofs.Bools.{bool_iff}
use Rattle.base.proofs.Counts.{all_true, true_all, all_ext}
use Rattle.limits.specs.Limits.{set_words, set_bytes}
use Rattle.trees.specs.Trees.{LeafSet}
use Rattle.trees.specs.Splits.{bytes_of, set_of}
use Rattle.trees.proofs.Subtrees.{alike_is, alike_same}
use Rattle.sets.specs.declared.Combination.{Combination}
use Rattle.sets.specs.declared.Combination.TheVariants.{Union, Intersection}
use Rattle.sets.specs.Sets.{combined, same_set}
use Rattle.sets.specs.Words.{set_of_words, words_of}
use Rattle.sets.specs.inner.Numbers.{of_numbers}

-- a set's words hold its leaves: as many bits as its bytes have
pub words_hold : (e : LeafSet) (k : ℕ) → k < 8 * set_bytes → set_of_words (words_of e) k ≡ e k
words_hold = cells_hold 64 set_words

-- so they have the same bytes
pub words_bytes : (e : LeafSet) → bytes_of (set_of_words (words_of e)) ≡ bytes_of e
words_bytes e = cells_same 8 set_bytes _ e (words_hold e)

-- a set turned into words and back
pub words_and_back : (s : List ℕ) → AreCells 8 set_bytes s → bytes_of (set_of_words (words_of (set_of s))) ≡ s
words_and_back s h = words_bytes (set_of s) ∙ cells_back 8 set_bytes s h

-- and words into bytes and back
pub bytes_and_back : (w : List ℕ) → AreCells 64 set_words w → words_of (set_of (bytes_of (set_of_words w))) ≡ w
bytes_and_back w h =
    cells_same 64 set_words _ (set_of_words w) (cells_hold 8 set_bytes (set_of_words w)) ∙ cells_back 64 set_words w h

-- what is made of two sets bit by bit is the same, made of their words
module _ (on_bits : Bool → Bool → Bool) (e f : LeafSet) where
  pub bytes_by :
      bytes_of (set_of_words (words_of (λ k. on_bits (set_of_words (words_of e) k) (set_of_words (words_of f) k))))
      ≡ bytes_of (λ k. on_bits (e k) (f k))
  bytes_by = words_bytes _ ∙ cells_same 8 set_bytes _ _ (λ k l. rw (words_hold e k l, words_hold f k l))

-- so is whether they agree
pub same_words : (e f : LeafSet) → same_set (set_of_words (words_of e)) (set_of_words (words_of f)) ≡ same_set e f
unfolding same_set
same_words e f = all_ext (8 * set_bytes) _ _ (λ k l. rw (words_hold e k l, words_hold f k l))

-- two sets are the same exactly when their cells are
module _
    (width many : ℕ) (whole : width * many ≡ 8 * set_bytes) (a b : List ℕ) (ha : AreCells width many a)
    (hb : AreCells width many b) where
  abbrev same_so_far : ℕ → Bool
  same_so_far m = all_below m (λ i. eqb (get_or a i 0) (get_or b i 0))

  same_lists : same_so_far many ≡ true → a ≡ b
  same_lists h = ext_get_or 0 a b (ha.0 ∙ sym hb.0) (λ i l. eqb-true _ _ (all_true many _ h i (rw ha.0 at l)))

  agree :
      same_set (in_cells width a) (in_cells width b) ≡ true → (k : ℕ) → k < width * many
      → in_cells width a k ≡ in_cells width b k
  unfolding same_set
  agree h k l = alike_is _ _ (all_true (8 * set_bytes) _ h k (rw whole at l))

  pub same_by_cells : same_set (in_cells width a) (in_cells width b) ≡ same_so_far many
  unfolding same_set
  same_by_cells = bool_iff _ _
      (λ h. true_all many _ (λ i l. eq-eqb _ _ (same_cells width many a b ha hb (agree h) i l)))
      (λ h. true_all (8 * set_bytes) _ (λ k l. alike_same _ _ (rw (same_lists h))))

  -- and they are so exactly when the cells are one list
  pub same_exactly :
      (same_set (in_cells width a) (in_cells width b) ≡ true → a ≡ b)
      × (a ≡ b → same_set (in_cells width a) (in_cells width b) ≡ true)
  same_exactly = (
    λ h. same_lists (sym same_by_cells ∙ h),
    λ e. same_by_cells ∙ true_all many _ (λ i l. eq-eqb (get_or a i 0) (get_or b i 0) (rw e)),
  )

  -- as code tells of two lists whether they are equal
  pub same_pointwise : pointwise eqb a b ≡ same_set (in_cells width a) (in_cells width b)
  same_pointwise =
      let decides = bytes_decides a b in
      bool_iff _ _ (λ h. same_exactly.1 (decides.0 h)) (λ h. decides.1 (same_exactly.0 h))

-- what is made of sets as their bytes hold them
pub combined_held :
    (what : Combination) (e f : LeafSet)
    → bytes_of (combined what (set_of (bytes_of e)) (set_of (bytes_of f))) ≡ bytes_of (combined what e f)
unfolding combined
combined_held what e f =
    cells_same 8 set_bytes _ _ (λ k l. rw (cells_hold 8 set_bytes e k l, cells_hold 8 set_bytes f k l))

-- what is made of the cells of two sets
pub combined_cells :
    (what : Combination) (width many : ℕ) (a b : List ℕ) → AreCells width many a → AreCells width many b
    → cells width many (combined what (in_cells width a) (in_cells width b))
    ≡ tab many (λ i. of_numbers what (get_or a i 0) (get_or b i 0))
unfolding combined
combined_cells Union width many a b ha hb = cells_or width many a b ha hb
combined_cells Intersection width many a b ha hb = cells_and width many a b ha hb

-- Byte by byte: the or of two sets' bytes, their and, and whether each byte is equal.
module _ (a b : List ℕ) (ha : AreCells 8 set_bytes a) (hb : AreCells 8 set_bytes b) where
  pub join_by_bytes :
      bytes_of (combined Union (set_of a) (set_of b)) ≡ tab set_bytes (λ i. bit_or (get_or a i 0) (get_or b i 0))
  join_by_bytes = combined_cells Union 8 set_bytes a b ha hb

  pub intersect_by_bytes :
      bytes_of (combined Intersection (set_of a) (set_of b))
      ≡ tab set_bytes (λ i. bit_and (get_or a i 0) (get_or b i 0))
  intersect_by_bytes = combined_cells Intersection 8 set_bytes a b ha hb

  pub equal_by_bytes : same_set (set_of a) (set_of b) ≡ all_below set_bytes (λ i. eqb (get_or a i 0) (get_or b i 0))
  equal_by_bytes = same_by_cells 8 set_bytes refl a b ha hb

  -- lent sets are equal exactly when their bytes are
  pub equal_exactly : (same_set (set_of a) (set_of b) ≡ true → a ≡ b) × (a ≡ b → same_set (set_of a) (set_of b) ≡ true)
  equal_exactly = same_exactly 8 set_bytes refl a b ha hb
