-- Leaves are numbered from the left.
use Rattle.std.proofs.Common.{◌≡◌, ℕ, zero, suc, ◌+◌, List, ◌∷◌, ◌++◌, arith, refl, ap, ◌∙◌}
use Rattle.tick_tree.specs.definitions.Shapes.{Shape, Single, InTurn, OneOf, Beside, WithNew}
use Rattle.tick_tree.specs.definitions.Trees.{leaves_in, copies_in, renamed, numbered, tree_of}
use Rattle.tick_tree.specs.definitions.Laws.{numbers_from, leaf_numbers}

same_from : (n m k l : ℕ) → n ≡ m → k ≡ l → numbers_from n k ≡ numbers_from m l
same_from n m k l x y = ap (λ i. numbers_from i k) x ∙ ap (numbers_from m) y

both_from : (n a b : ℕ) → numbers_from n a ++ numbers_from (n + a) b ≡ numbers_from n (a + b)
both_from n zero b = same_from (n + 0) n b (0 + b) (omega arith) (omega arith)
both_from n (suc a) b =
    ap (λ l. n ∷ l) (ap (λ i. numbers_from (suc n) a ++ numbers_from i b) (let e : n + suc a ≡ suc n + a = omega arith in e) ∙ both_from (suc n) a b)
    ∙ ap (numbers_from n) (let e : suc (a + b) ≡ suc a + b = omega arith in e)

in_both : (n a b : ℕ) (xs ys : List ℕ) → xs ≡ numbers_from n a → ys ≡ numbers_from (n + a) b → xs ++ ys ≡ numbers_from n (a + b)
in_both n a b xs ys x y = ap (λ l. l ++ ys) x ∙ ap (λ l. numbers_from n a ++ l) y ∙ both_from n a b

numbers-numbered : (names : ℕ → ℕ) (leaf copy : ℕ) (p : Shape) → leaf_numbers (numbered names leaf copy p) ≡ numbers_from leaf (leaves_in p)
numbers-numbered names leaf copy (Single x) = refl
numbers-numbered names leaf copy (InTurn p q) = in_both leaf (leaves_in p) (leaves_in q) _ _ (numbers-numbered names leaf copy p) (numbers-numbered names (leaf + leaves_in p) (copy + copies_in p) q)
numbers-numbered names leaf copy (OneOf p q) = in_both leaf (leaves_in p) (leaves_in q) _ _ (numbers-numbered names leaf copy p) (numbers-numbered names (leaf + leaves_in p) (copy + copies_in p) q)
numbers-numbered names leaf copy (Beside p q) = in_both leaf (leaves_in p) (leaves_in q) _ _ (numbers-numbered names leaf copy p) (numbers-numbered names (leaf + leaves_in p) (copy + copies_in p) q)
numbers-numbered names leaf copy (WithNew s p) = numbers-numbered (renamed names s copy) leaf (suc copy) p

pub numbers-tree_of : (interface : ℕ) (p : Shape) → leaf_numbers (tree_of interface p) ≡ numbers_from 0 (leaves_in p)
numbers-tree_of interface p = numbers-numbered (λ s. s) 0 interface p
