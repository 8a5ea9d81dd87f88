-- The signs and words that the program tells by their first bytes are those of the tables.
use Rattle.std.proofs.Common.{◌≡◌, ℕ, length, Bool, true, false, cond, List, Option, Some, None, option_map, refl, ap, sym, ◌∙◌}
use Rattle.std.specs.Str.{bytes_eq}
use Rattle.sj_lexer.specs.declared.token.Word.{Word}
use Rattle.sj_lexer.specs.declared.token.Mark.{Mark}
use Rattle.sj_lexer.specs.definitions.ReservedWords.{reserved_word}
use Rattle.sj_lexer.specs.definitions.Signs.{Sign}
use Rattle.sj_lexer.specs.declared.head.Head.TheVariants.{Lexeme, Bad}
use Rattle.sj_lexer.specs.declared.head.Fault.TheVariants as fault
use Rattle.sj_lexer.specs.declared.token.Class.TheVariants as class
use Rattle.sj_lexer.specs.definitions.Heads.{sign}

pub sign_some : (o : Option Sign) (m : Mark) (n : ℕ) → option_map {U = Mark × ℕ} (λ s. (s.mark, length s.text)) o ≡ Some (m, n) → Lexeme (class.Mark m) n ≡ sign o
sign_some None m n h = cc
sign_some (Some s) m n h =
    let P : Type 0 = Mark × ℕ in
    let x : P = (s.mark, length s.text) in
    let y : P = (m, n) in
    let e : x ≡ y = cc in
    ap (λ (p : P). Lexeme (class.Mark p.0) p.1) (sym e)

pub sign_none : (o : Option Sign) → option_map {U = Mark × ℕ} (λ s. (s.mark, length s.text)) o ≡ None → Bad fault.BadByte 0 ≡ sign o
sign_none None h = refl
sign_none (Some s) h = cc

pub longer_or : {A C : Type 0} (f : A → C) (b : Bool) {x : A} {y : C} (m : Option A) {n r : Option C} → r ≡ cond b (Some y) n → y ≡ f x → n ≡ option_map f m → r ≡ option_map f (cond b (Some x) m)
longer_or f true m h k l = h ∙ ap Some k
longer_or f false m h k l = h ∙ l

pub word_at : (text : List ℕ) {bytes w : List ℕ} (y n : Option Word) {r : Option Word} → bytes ≡ w → r ≡ cond (bytes_eq bytes text) y n → r ≡ cond (bytes_eq w text) y n
word_at text y n e h = h ∙ ap (λ v. cond (bytes_eq v text) y n) e

pub word_begins : {r : Option Word} {bytes w : List ℕ} → bytes ≡ w → r ≡ reserved_word w → r ≡ reserved_word bytes
word_begins e h = h ∙ sym (ap reserved_word e)
