-- A tree is causal where its leaves have ranks that rise from each leaf to those that it precedes, which a test tells.
use Rattle.std.proofs.Common.{◌≡◌, ◌⊎◌, ◌<◌, ◌≤◌, ℕ, zero, suc, ◌==◌, Bool, true, false, ◌&&◌, ◌||◌, cond, nat_le, nat_lt, max, List, [], ◌∷◌, arith, Option, Some, None, refl, ap, sym, ◌∙◌, inl, inr}
use Rattle.std.proofs.Math.Nat.{le-max_left, le-max_right}
use Rattle.std.proofs.lemmas.Bool.{leb-true}
use Rattle.std.proofs.lemmas.Bool.Decides.{nat_tests}
use Rattle.std.specs.List.{list_any, list_all}
use Rattle.tick_tree.specs.definitions.Trees.{Tree, One, Seq, Alt, Both}
use Rattle.tick_tree.specs.definitions.Precedence.{Among, HasLeaf, Writes, Reads, StandsFirst, Precedes, IsCausal, IsCausalIf}
use Rattle.tick_tree.proofs.RowLemmas.{ranked}
use Rattle.tick_tree.proofs.PartLists.{and_left, and_right}

either : {A B C : Type 0} → A ⊎ B → (A → C) → (B → C) → C
either (inl a) f g = f a
either (inr b) f g = g b

module _ (rank : ℕ → ℕ) where
  -- one above the greatest rank of the tree's leaves
  abbrev pub top : Tree → ℕ
  top (One x) = suc (rank x.number)
  top (Seq p q) = max (top p) (top q)
  top (Alt p q) = max (top p) (top q)
  top (Both p q) = max (top p) (top q)

  -- no leaf has a rank below this one
  abbrev pub all_from : ℕ → Tree → Bool
  all_from k (One x) = nat_le k (rank x.number)
  all_from k (Seq p q) = all_from k p && all_from k q
  all_from k (Alt p q) = all_from k p && all_from k q
  all_from k (Both p q) = all_from k p && all_from k q

  abbrev pub sequences_rise : Tree → Bool
  sequences_rise (One x) = true
  sequences_rise (Seq p q) = sequences_rise p && (sequences_rise q && all_from (top p) q)
  sequences_rise (Alt p q) = sequences_rise p && sequences_rise q
  sequences_rise (Both p q) = sequences_rise p && sequences_rise q

  abbrev among : ℕ → List ℕ → Bool
  among s ns = list_any (λ m. m == s) ns

  -- one above the greatest rank of the leaves that write the signal
  abbrev pub writers_top : ℕ → Tree → ℕ
  writers_top s (One x) = cond (among s x.writes) (suc (rank x.number)) 0
  writers_top s (Seq p q) = max (writers_top s p) (writers_top s q)
  writers_top s (Alt p q) = max (writers_top s p) (writers_top s q)
  writers_top s (Both p q) = max (writers_top s p) (writers_top s q)

  -- no leaf that reads the signal has a rank below this one
  abbrev pub readers_from : ℕ → ℕ → Tree → Bool
  readers_from s k (One x) = cond (among s x.reads) (nat_le k (rank x.number)) true
  readers_from s k (Seq p q) = readers_from s k p && readers_from s k q
  readers_from s k (Alt p q) = readers_from s k p && readers_from s k q
  readers_from s k (Both p q) = readers_from s k p && readers_from s k q

  -- of each signal below this number
  abbrev pub signals_rise : Tree → ℕ → Bool
  signals_rise t zero = true
  signals_rise t (suc s) = readers_from s (writers_top s t) t && signals_rise t s

  below_top : (t : Tree) (l : ℕ) → HasLeaf t l → rank l < top t
  below_top (One x) l h = let e = ap rank h in omega (arith, e)
  below_top (Seq p q) l (inl h) = let a = below_top p l h in let b = le-max_left (top p) (top q) in omega arith
  below_top (Seq p q) l (inr h) = let a = below_top q l h in let b = le-max_right (top p) (top q) in omega arith
  below_top (Alt p q) l (inl h) = let a = below_top p l h in let b = le-max_left (top p) (top q) in omega arith
  below_top (Alt p q) l (inr h) = let a = below_top q l h in let b = le-max_right (top p) (top q) in omega arith
  below_top (Both p q) l (inl h) = let a = below_top p l h in let b = le-max_left (top p) (top q) in omega arith
  below_top (Both p q) l (inr h) = let a = below_top q l h in let b = le-max_right (top p) (top q) in omega arith

  is_from : (k : ℕ) (t : Tree) (l : ℕ) → all_from k t ≡ true → HasLeaf t l → k ≤ rank l
  is_from k (One x) l a h = let e = ap rank h in let b = leb-true k (rank x.number) a in omega (arith, e)
  is_from k (Seq p q) l a (inl h) = is_from k p l (and_left (all_from k p) (all_from k q) a) h
  is_from k (Seq p q) l a (inr h) = is_from k q l (and_right (all_from k p) (all_from k q) a) h
  is_from k (Alt p q) l a (inl h) = is_from k p l (and_left (all_from k p) (all_from k q) a) h
  is_from k (Alt p q) l a (inr h) = is_from k q l (and_right (all_from k p) (all_from k q) a) h
  is_from k (Both p q) l a (inl h) = is_from k p l (and_left (all_from k p) (all_from k q) a) h
  is_from k (Both p q) l a (inr h) = is_from k q l (and_right (all_from k p) (all_from k q) a) h

  stands : (t : Tree) (l m : ℕ) → sequences_rise t ≡ true → StandsFirst t l m → rank l < rank m
  stands (One x) l m a h = absurd h
  stands (Seq p q) l m a (inl h) = stands p l m (and_left (sequences_rise p) (sequences_rise q && all_from (top p) q) a) h
  stands (Seq p q) l m a (inr (inl h)) =
      stands q l m (and_left (sequences_rise q) (all_from (top p) q) (and_right (sequences_rise p) (sequences_rise q && all_from (top p) q) a)) h
  stands (Seq p q) l m a (inr (inr (b, c))) =
      let x = below_top p l b in
      let y = is_from (top p) q m (and_right (sequences_rise q) (all_from (top p) q) (and_right (sequences_rise p) (sequences_rise q && all_from (top p) q) a)) c in
      omega arith
  stands (Alt p q) l m a (inl h) = stands p l m (and_left (sequences_rise p) (sequences_rise q) a) h
  stands (Alt p q) l m a (inr h) = stands q l m (and_right (sequences_rise p) (sequences_rise q) a) h
  stands (Both p q) l m a (inl h) = stands p l m (and_left (sequences_rise p) (sequences_rise q) a) h
  stands (Both p q) l m a (inr h) = stands q l m (and_right (sequences_rise p) (sequences_rise q) a) h

  one_writer : (b : Bool) (k n : ℕ) → b ≡ true → k ≡ n → k < cond b (suc n) 0
  one_writer true k n h e = omega (arith, e)
  one_writer false k n h e = cc

  below_writers : (s : ℕ) (t : Tree) (l : ℕ) → Writes t l s → rank l < writers_top s t
  below_writers s (One x) l (a, b) = one_writer (among s x.writes) (rank l) (rank x.number) b (sym (ap rank a))
  below_writers s (Seq p q) l (inl h) = let a = below_writers s p l h in let b = le-max_left (writers_top s p) (writers_top s q) in omega arith
  below_writers s (Seq p q) l (inr h) = let a = below_writers s q l h in let b = le-max_right (writers_top s p) (writers_top s q) in omega arith
  below_writers s (Alt p q) l (inl h) = let a = below_writers s p l h in let b = le-max_left (writers_top s p) (writers_top s q) in omega arith
  below_writers s (Alt p q) l (inr h) = let a = below_writers s q l h in let b = le-max_right (writers_top s p) (writers_top s q) in omega arith
  below_writers s (Both p q) l (inl h) = let a = below_writers s p l h in let b = le-max_left (writers_top s p) (writers_top s q) in omega arith
  below_writers s (Both p q) l (inr h) = let a = below_writers s q l h in let b = le-max_right (writers_top s p) (writers_top s q) in omega arith

  one_reader : (b : Bool) (k n : ℕ) → cond b (nat_le k n) true ≡ true → b ≡ true → k ≤ n
  one_reader true k n h e = leb-true k n h
  one_reader false k n h e = cc

  from_readers : (s k : ℕ) (t : Tree) (m : ℕ) → readers_from s k t ≡ true → Reads t m s → k ≤ rank m
  from_readers s k (One x) m a (b, c) = let e = ap rank b in let d = one_reader (among s x.reads) k (rank x.number) a c in omega (arith, e)
  from_readers s k (Seq p q) m a (inl h) = from_readers s k p m (and_left (readers_from s k p) (readers_from s k q) a) h
  from_readers s k (Seq p q) m a (inr h) = from_readers s k q m (and_right (readers_from s k p) (readers_from s k q) a) h
  from_readers s k (Alt p q) m a (inl h) = from_readers s k p m (and_left (readers_from s k p) (readers_from s k q) a) h
  from_readers s k (Alt p q) m a (inr h) = from_readers s k q m (and_right (readers_from s k p) (readers_from s k q) a) h
  from_readers s k (Both p q) m a (inl h) = from_readers s k p m (and_left (readers_from s k p) (readers_from s k q) a) h
  from_readers s k (Both p q) m a (inr h) = from_readers s k q m (and_right (readers_from s k p) (readers_from s k q) a) h

  same_or_below : (s n : ℕ) → s < suc n → (s ≡ n) ⊎ (s < n)
  same_or_below s n h = grind arith

  at_signal : (t : Tree) (n s l m : ℕ) → signals_rise t (suc n) ≡ true → s ≡ n → Writes t l s → Reads t m s → rank l < rank m
  at_signal t n s l m a e w r =
      let x = below_writers s t l w in
      let y = from_readers s (writers_top s t) t m (ap (λ k. readers_from k (writers_top k t) t) e ∙ and_left (readers_from n (writers_top n t) t) (signals_rise t n) a) r in
      omega arith

  crosses : (t : Tree) (n s l m : ℕ) → signals_rise t n ≡ true → s < n → Writes t l s → Reads t m s → rank l < rank m
  crosses t zero s l m a h w r = absurd (omega arith)
  crosses t (suc n) s l m a h w r =
      either (same_or_below s n h) (λ e. at_signal t n s l m a e w r) (λ b. crosses t n s l m (and_right (readers_from n (writers_top n t) t) (signals_rise t n) a) b w r)

-- the leaves write signals below this number alone
abbrev pub writes_below : ℕ → Tree → Bool
writes_below n (One x) = list_all (λ s. nat_lt s n) x.writes
writes_below n (Seq p q) = writes_below n p && writes_below n q
writes_below n (Alt p q) = writes_below n p && writes_below n q
writes_below n (Both p q) = writes_below n p && writes_below n q

or_split : (b c : Bool) → b || c ≡ true → (b ≡ true) ⊎ (c ≡ true)
or_split true c h = inl refl
or_split false c h = inr h

same_number : (k s n : ℕ) → k == s ≡ true → nat_lt k n ≡ true → s < n
same_number k s n e h = grind (arith, nat_tests)

all_among : (n s : ℕ) (ns : List ℕ) → list_all (λ k. nat_lt k n) ns ≡ true → Among s ns → s < n
all_among n s [] a h = cc
all_among n s (k ∷ ns) a h =
    either (or_split (k == s) (list_any (λ m. m == s) ns) h) (λ e. same_number k s n e (and_left (nat_lt k n) (list_all (λ j. nat_lt j n) ns) a))
    (λ b. all_among n s ns (and_right (nat_lt k n) (list_all (λ j. nat_lt j n) ns) a) b)

written_below : (n : ℕ) (t : Tree) (l s : ℕ) → writes_below n t ≡ true → Writes t l s → s < n
written_below n (One x) l s a (b, c) = all_among n s x.writes a c
written_below n (Seq p q) l s a (inl h) = written_below n p l s (and_left (writes_below n p) (writes_below n q) a) h
written_below n (Seq p q) l s a (inr h) = written_below n q l s (and_right (writes_below n p) (writes_below n q) a) h
written_below n (Alt p q) l s a (inl h) = written_below n p l s (and_left (writes_below n p) (writes_below n q) a) h
written_below n (Alt p q) l s a (inr h) = written_below n q l s (and_right (writes_below n p) (writes_below n q) a) h
written_below n (Both p q) l s a (inl h) = written_below n p l s (and_left (writes_below n p) (writes_below n q) a) h
written_below n (Both p q) l s a (inr h) = written_below n q l s (and_right (writes_below n p) (writes_below n q) a) h

-- the leaves of the tree, which write signals below this number, have rising ranks
abbrev pub rises_by : (ℕ → ℕ) → ℕ → Tree → Bool
rises_by rank n t = sequences_rise rank t && (writes_below n t && signals_rise rank t n)

pub rising_ranks : (rank : ℕ → ℕ) (n : ℕ) (t : Tree) → rises_by rank n t ≡ true → IsCausal t
rising_ranks rank n t h = ranked t rank up
  where
    a : sequences_rise rank t ≡ true
    a = and_left (sequences_rise rank t) (writes_below n t && signals_rise rank t n) h

    b : writes_below n t && signals_rise rank t n ≡ true
    b = and_right (sequences_rise rank t) (writes_below n t && signals_rise rank t n) h

    up : (l m : ℕ) → Precedes t l m → rank l < rank m
    up l m (inl f) = stands rank t l m a f
    up l m (inr (s, w, r)) =
        crosses rank t n s l m (and_right (writes_below n t) (signals_rise rank t n) b) (written_below n t l s (and_left (writes_below n t) (signals_rise rank t n) b) w) w r

abbrev pub rise_if : (ℕ → ℕ) → ℕ → Option Tree → Bool
rise_if rank n None = true
rise_if rank n (Some t) = rises_by rank n t

pub rising_ranks_if : (rank : ℕ → ℕ) (n : ℕ) (o : Option Tree) → rise_if rank n o ≡ true → IsCausalIf o
rising_ranks_if rank n None h = tt
rising_ranks_if rank n (Some t) h = rising_ranks rank n t h
