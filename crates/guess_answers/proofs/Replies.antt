-- A reply that refusals o go before, none of them 6, against the rebuild of the same table that they go before: what
-- the guess of a lent table and that of a sheet's have in common. Where o refuses nothing, the table has a zero
-- diagonal and equal halves, and the leaf count is one.
use mathlib.Core.Path.{◌≡◌, refl, ap, sym, ◌∙◌}
use mathlib.Core.Logic.{inl, inr, ◌↔◌, ◌≢◌}
use mathlib.Core.List.{List}
use mathlib.Core.Option.{Option, none, some}
use Prim.Native.Nat.{ℕ, ◌*◌, ◌^◌, ◌<◌}
use native.Mathlib.Omega.{arith}
use Rattle.limits.specs.Limits.{IsLeafCount, largest_cell}
use Rattle.refusals.specs.declared.Refusal.{Refusal}
use Rattle.refusals.specs.declared.Refusal.TheVariants.{NoTree}
use Rattle.refusals.specs.Refusals.{Answer, accepted, refused, answered, unless}
use Rattle.refusals.specs.Meanings.{MeansUnless, refused_before, none_before}
use Rattle.refusals.proofs.Answers.{accepted_not_refused, unless_passed, unless_accepted, unless_refused}
use Rattle.refusals.proofs.Answers.{answered_accepted}
use Rattle.refusals.proofs.Causes.{Arises}
use Rattle.tree_records.specs.declared.Origin.TheVariants.{Rebuilt, Guessed}
use Rattle.trees.specs.Listings.{KeepsRules, tree_of, standard}
use Rattle.trees.specs.Tables.{cell, HasTable, IsTable}
use Rattle.trees.specs.Gaps.{total_gap}
use Rattle.trees.proofs.Gaps.{gap_fits}
use Rattle.merging.specs.Rebuilds.{rebuilt}
use Rattle.merging.specs.Guesses.{Reply, exact, guessed, replied}
use Rattle.merging.specs.Meaning.{HasNoTree, TableMeans, the_only_tree, no_tree}
use Rattle.merging.proofs.Meaning.{rebuilt_means}
use Rattle.merging.proofs.Guesses.{replied_exact, replied_guessed, guess_rough}
use Rattle.merging.proofs.GuessLaws as laws
use Rattle.guess_answers.specs.Meanings as means
use Rattle.guess_answers.specs.Meanings.{ReplyMeans}

-- what holds of an accepted reply
pub record IsReply (n s : ℕ) (t : List ℕ) (R : Reply) : Type 0 where
  pub count : IsLeafCount n
  -- it is a tree on those leaves, by its standard listing, with its total gap to the table
  pub is_a_tree : KeepsRules n R.listing
  pub is_standard : standard n (tree_of n R.listing) ≡ R.listing
  pub total_of_it : R.total ≡ total_gap n s t (tree_of n R.listing)
  -- rebuilt stands on a tree that has the table
  pub rebuilt_has : R.origin ≡ Rebuilt → HasTable n s t (tree_of n R.listing)
  -- guessed appears exactly where no tree has it
  pub guessed_exactly : (R.origin ≡ Guessed) ↔ HasNoTree n s t
  -- the total gap is 0 exactly where the tree is rebuilt
  pub total_0_exactly : (R.total ≡ 0) ↔ (R.origin ≡ Rebuilt)

-- a guess is marked guessed, and not rebuilt
marks_differ : (n s : ℕ) (t l : List ℕ) → guessed n s t ≡ exact l → ⊥
unfolding guessed
marks_differ n s t l e =
    let marks : Guessed ≡ Rebuilt = ap (λ r. r.origin) e in
    let z : ◌≡◌ {A = ℕ} 0 1 = cc in omega arith

-- the refusals o go before the reply to the table t, at the scale s
pub record Before (o : Option Refusal) (n s : ℕ) (t : List ℕ) : Type 0 where
  pub other : Arises (λ r. r ≢ NoTree) o
  pub positive : 0 < s
  pub given : o ≡ none → IsLeafCount n × IsTable n t

module _ {o : Option Refusal} {n s : ℕ} {t : List ℕ} (b : Before o n s t) where
  abbrev guess : Answer Reply
  guess = answered o (replied n s t)

  abbrev rebuild : Answer (List ℕ)
  rebuild = unless o (rebuilt n s t)

  six_last : o ≡ some NoTree → ⊥
  six_last e = (rw e at b.other) refl

  -- The table, where nothing is refused before.
  module _ (passes : o ≡ none) where
    count : IsLeafCount n
    count = (b.given passes).0

    table : IsTable n t
    table = (b.given passes).1

    guess_is : guess ≡ accepted (replied n s t)
    unfolding answered
    guess_is = rw passes

    rebuild_is : rebuild ≡ rebuilt n s t
    rebuild_is = unless_passed o (rebuilt n s t) passes

    -- it means the only tree that has the table, or a guess where none has it
    reply_means : ReplyMeans n s t (accepted (replied n s t))
    reply_means = by (rebuilt_means n count s b.positive t table) refl
      where
        by :
            {a : Answer (List ℕ)} → TableMeans n s t a → rebuilt n s t ≡ a
            → ReplyMeans n s t (accepted (replied n s t))
        by (the_only_tree {l} h) e = rw (replied_exact n s t l e) (means.the_only_tree h)
        by (no_tree h) e =
            let same = replied_guessed n s t NoTree e in
            let r = rw same at (laws.reply_is n count s b.positive t table) in
            rw same (unfold guessed in means.a_guess h (record {
              keeps_rules = r.is_a_tree;
              is_standard = r.is_standard;
              total_of_it = r.total_of_it;
              not_0 = guess_rough n s t table count.0 h;
            }))

    only_six : (r : Refusal) → rebuilt n s t ≡ refused r → r ≡ NoTree
    only_six r = by (rebuilt_means n count s b.positive t table)
      where
        by : {a : Answer (List ℕ)} → TableMeans n s t a → a ≡ refused r → r ≡ NoTree
        by (the_only_tree h) e = absurd (accepted_not_refused _ r e)
        by (no_tree h) e = cc

  pub guess_means : MeansUnless o (ReplyMeans n s t) guess
  guess_means = by o refl
    where
      by : (p : Option Refusal) → o ≡ p → MeansUnless o (ReplyMeans n s t) guess
      by none e = none_before {a = guess} e (rw (guess_is e) (reply_means e))
      by (some r) e = unfold answered in rw e (refused_before refl)

  -- It is refused exactly where the rebuild is with another cause than 6, and with the same.
  pub same_refusal : (r : Refusal) → (guess ≡ refused r) ↔ ((rebuild ≡ refused r) × (r ≢ NoTree))
  same_refusal r = (
    λ e. (let before = cause e in (unfold unless in rw before, λ six. six_last (before ∙ ap some six))),
    λ e. elim (unless_refused o (rebuilt n s t) r e.0) [
      | inl before ↦ stopped before
      | inr after ↦ absurd (e.1 (only_six after.0 r after.1))
    ],
  )
    where
      stopped : o ≡ some r → guess ≡ refused r
      stopped before = unfold answered in rw before

      cause : guess ≡ refused r → o ≡ some r
      cause e = by o refl
        where
          by : (p : Option Refusal) → o ≡ p → o ≡ some r
          by none h = absurd (accepted_not_refused _ r (sym (guess_is h) ∙ e))
          by (some x) h = unfold answered in (let same = rw h at e in h ∙ cc)

  -- Where the rebuild gives a listing, it is that tree, rebuilt, with the total gap 0, and nowhere else.
  pub same_tree : (l : List ℕ) → (guess ≡ accepted (exact l)) ↔ (rebuild ≡ accepted l)
  same_tree l = (
    λ e. (let a = answered_accepted o (replied n s t) (exact l) e in rebuild_is a.0 ∙ listed a.0 a.1),
    λ e.
        let a = unless_accepted o (rebuilt n s t) l e in
        guess_is a.0 ∙ ap accepted (replied_exact n s t l a.1),
  )
    where
      listed : o ≡ none → replied n s t ≡ exact l → rebuilt n s t ≡ accepted l
      listed passes e = by (rebuilt_means n (count passes) s b.positive t (table passes)) refl
        where
          by : {a : Answer (List ℕ)} → TableMeans n s t a → rebuilt n s t ≡ a → rebuilt n s t ≡ accepted l
          by (the_only_tree {l = k} h) f = f ∙ ap accepted (ap (λ r. r.listing) (sym (replied_exact n s t k f) ∙ e))
          by (no_tree h) f = absurd (marks_differ n s t l (sym (replied_guessed n s t NoTree f) ∙ e))

  -- Where the rebuild says 6, it is the guess.
  pub guessed_for_six : rebuild ≡ refused NoTree → guess ≡ accepted (guessed n s t)
  guessed_for_six e = elim (unless_refused o (rebuilt n s t) NoTree e) [
    | inl before ↦ absurd (six_last before)
    | inr after ↦ guess_is after.0 ∙ ap accepted (replied_guessed n s t NoTree after.1)
  ]

  pub accepted_is : (R : Reply) → guess ≡ accepted R → IsReply n s t R
  accepted_is R e =
      let a = answered_accepted o (replied n s t) R e in
      let c = count a.0 in
      let is = table a.0 in
      let r = laws.reply_is n c s b.positive t is in
      let whole : IsReply n s t (replied n s t) = record {
        count = c;
        is_a_tree = r.is_a_tree;
        is_standard = r.is_standard;
        total_of_it = r.total_of_it;
        rebuilt_has = laws.rebuilt_has n c s b.positive t is;
        guessed_exactly = laws.guessed_exactly n c s b.positive t is;
        total_0_exactly = laws.total_0_exactly n c s b.positive t is;
      } in
      rw a.1 at whole

  -- the total gap fits 48 bits where the cells fit 32
  pub total_fits :
      (R : Reply) → guess ≡ accepted R → s * largest_cell < 2 ^ 32
      → ((i j : ℕ) → i < n → j < n → cell n t i j < 2 ^ 32) → R.total < 2 ^ 48
  total_fits R e few cells =
      let is = accepted_is R e in
      rw is.total_of_it (gap_fits n s t (tree_of n R.listing) is.count few cells)
