-- Four words.
use Rattle.std.proofs.Common.{◌≡◌, ℕ, Bool, true, false, not, List, [], ◌∷◌, length, get_or, arith, refl, sym, ◌∙◌, subst}
use Rattle.std.specs.Prelude.{string_bytes, codes}
use Rattle.std.specs.declared.alloc.Global.{Global}
use Rattle.std.specs.declared.string.String.{String}
use Rattle.std.specs.Str.{bytes_eq}
use Rattle.std.proofs.lemmas.Slice.Eq.{bytes_eq-Decides}
use Rattle.sj_main.specs.CommandWords.{NoTurns, HasTurns, AreOrderWords, NoOrderWords}
use Rattle.sj_main.specs.declared.commands.Turns.{Turns}
use Rattle.sj_main.specs.definitions.Commands.{IsTurns, IsOrder, IsNoCommand, word_list, IsCommand}

pub four_words : (words : List (String Global)) (a b c d : String Global) → length words ≡ 4 → a ≡ get_or words 0 a → b ≡ get_or words 1 b → c ≡ get_or words 2 c → d ≡ get_or words 3 d
    → word_list words ≡ string_bytes a ∷ string_bytes b ∷ string_bytes c ∷ string_bytes d ∷ []
four_words [] a b c d n p q r s = absurd (omega arith)
four_words (w ∷ []) a b c d n p q r s = absurd (omega arith)
four_words (w ∷ x ∷ []) a b c d n p q r s = absurd (omega arith)
four_words (w ∷ x ∷ y ∷ []) a b c d n p q r s = absurd (omega arith)
four_words (w ∷ x ∷ y ∷ z ∷ []) a b c d n p q r s = cc
four_words (w ∷ x ∷ y ∷ z ∷ v ∷ rest) a b c d n p q r s = absurd (omega arith)

pub same_word : (xs ys : List ℕ) (r : Bool) → r ≡ not (bytes_eq xs ys) → r ≡ false → xs ≡ ys
same_word xs ys r e f = (bytes_eq-Decides xs ys).0 (undone (bytes_eq xs ys) (sym e ∙ f)) where
  undone : (b : Bool) → not b ≡ false → b ≡ true
  undone true h = refl
  undone false h = cc

third_word : (words : List (List ℕ)) (a b file turns : List ℕ) → AreOrderWords words a b → words ≡ codes "order" ∷ file ∷ turns ∷ codes "-" ∷ [] → turns ≡ b
third_word words a b file turns w h = let e = w.are in cc

pub order_read : (words : List (List ℕ)) (file word : List ℕ) (turns : Turns) → AreOrderWords words file word → IsTurns word turns → IsOrder words file turns
order_read words file word turns w t = record { word = word; is = w.are; takes = t }

pub no_order : (words : List (List ℕ)) → NoOrderWords words → IsNoCommand words
no_order words n = λ file turns o. n.none file o.word o.is

pub no_order_turns : (words : List (List ℕ)) (file word : List ℕ) → AreOrderWords words file word → NoTurns word → IsNoCommand words
no_order_turns words file word w n = λ f turns o. n.none turns (subst (λ x. IsTurns x turns) (third_word words file word f o.word w o.is) o.takes)

pub command_read : (words : List (List ℕ)) (file word : List ℕ) → AreOrderWords words file word → HasTurns word → IsCommand words
command_read words file word w h = record { file = file; turns = h.turns; command = order_read words file word h.turns w h.are }

pub ruleset word_steps = (order_read, no_order, no_order_turns, command_read)
