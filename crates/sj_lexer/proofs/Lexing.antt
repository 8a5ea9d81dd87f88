-- The steps of the lexer.
use Rattle.std.proofs.Common.{◌≡◌, ◌==◌, false, ℕ, zero, suc, ◌+◌, ◌≤◌, ◌<◌, List, [], ◌∷◌, ◌++◌, length, drop, refl, ap, sym, ◌∙◌, subst, arith, length-drop}
use Rattle.sj_lexer.specs.declared.head.Head.{Head}
use Rattle.sj_lexer.specs.declared.head.Head.TheVariants.{AtEnd, Between, Lexeme, Bad}
use Rattle.sj_lexer.specs.declared.head.Fault.{Fault}
use Rattle.sj_lexer.specs.declared.token.Class.{Class}
use Rattle.sj_lexer.specs.declared.token.Token.{Token}
use Rattle.sj_lexer.specs.definitions.Heads.{head}
use Rattle.sj_lexer.specs.definitions.Readings.{Piece, Gap, Text, Leads, bytes_of, bytes_in, tokens_from, AreTokens, IsRefused, AreInOrder}
use Rattle.sj_lexer.specs.Lexing.{HasRead}
use Rattle.sj_lexer.proofs.HeadLengths.{Within, head_within}

leads_on : (bytes rest after : List ℕ) (ps qs : List Piece) → Leads bytes ps rest → Leads rest qs after → Leads bytes (ps ++ qs) after
leads_on bytes rest after [] qs a b = subst (λ x. Leads x qs after) (sym a) b
leads_on bytes rest after (Gap n ∷ ps) qs a b = (a.0, leads_on (drop n bytes) rest after ps qs a.1 b)
leads_on bytes rest after (Text c n ∷ ps) qs a b = (a.0, leads_on (drop n bytes) rest after ps qs a.1 b)

more_bytes : (ps : List Piece) (q : Piece) → bytes_in (ps ++ q ∷ []) ≡ bytes_in ps + bytes_of q
more_bytes [] q = omega arith
more_bytes (p ∷ ps) q = let e = more_bytes ps q in omega (arith, e)

more_gap : (at : ℕ) (ps : List Piece) (n : ℕ) → tokens_from at (ps ++ Gap n ∷ []) ≡ tokens_from at ps
more_gap at [] n = refl
more_gap at (Gap m ∷ ps) n = more_gap (at + m) ps n
more_gap at (Text c m ∷ ps) n = ap (λ ts. record { class = c; start = at; end = at + m } ∷ ts) (more_gap (at + m) ps n)

plus_assoc : (a b c : ℕ) → (a + b) + c ≡ a + (b + c)
plus_assoc a b c = omega arith

plus_zero : (a : ℕ) → a + 0 ≡ a
plus_zero a = omega arith

abbrev token_at : Class → ℕ → ℕ → Token
token_at c from to = record { class = c; start = from; end = to }

more_text : (at : ℕ) (ps : List Piece) (c : Class) (n : ℕ) → tokens_from at (ps ++ Text c n ∷ []) ≡ tokens_from at ps ++ token_at c (at + bytes_in ps) (at + bytes_in ps + n) ∷ []
more_text at [] c n = ap (λ k. token_at c k (k + n) ∷ []) (sym (plus_zero at))
more_text at (Gap m ∷ ps) c n = more_text (at + m) ps c n ∙ ap (λ k. tokens_from (at + m) ps ++ token_at c k (k + n) ∷ []) (plus_assoc at m (bytes_in ps))
more_text at (Text d m ∷ ps) c n = ap (λ ts. token_at d at (at + m) ∷ ts) (more_text (at + m) ps c n ∙ ap (λ k. tokens_from (at + m) ps ++ token_at c k (k + n) ∷ []) (plus_assoc at m (bytes_in ps)))

zero_plus : (a : ℕ) → 0 + a ≡ a
zero_plus a = omega arith

more_first : (ps : List Piece) (c : Class) (n : ℕ) → tokens_from 0 (ps ++ Text c n ∷ []) ≡ tokens_from 0 ps ++ token_at c (bytes_in ps) (bytes_in ps + n) ∷ []
more_first ps c n = more_text 0 ps c n ∙ ap (λ k. tokens_from 0 ps ++ token_at c k (k + n) ∷ []) (zero_plus (bytes_in ps))

order_more : (from to next : ℕ) (ts : List Token) (c : Class) → AreInOrder from to ts → to < next → AreInOrder from next (ts ++ token_at c to next ∷ [])
order_more from to next [] c a b = (a, b, omega arith)
order_more from to next (t ∷ ts) c a b = (a.0, a.1, order_more t.end to next ts c a.2 b)

order_later : (from to next : ℕ) (ts : List Token) → AreInOrder from to ts → to ≤ next → AreInOrder from next ts
order_later from to next [] a b = omega arith
order_later from to next (t ∷ ts) a b = (a.0, a.1, order_later t.end to next ts a.2 b)

pub within_head : (rest : List ℕ) (h : Head) → head rest ≡ h → 1 ≤ length rest → Within h (length rest)
within_head [] h e l = absurd (omega arith)
within_head (b ∷ bs) h e l = subst (λ x. Within x (length (b ∷ bs))) e (head_within b bs)

pub not_at_end : (rest : List ℕ) → head rest ≡ AtEnd → 1 ≤ length rest → ⊥
not_at_end rest e l = within_head rest AtEnd e l

pub between_bytes : (rest : List ℕ) (n : ℕ) → head rest ≡ Between n → 1 ≤ length rest → (1 ≤ n) × (n ≤ length rest)
between_bytes rest n e l = within_head rest (Between n) e l

pub lexeme_bytes : (rest : List ℕ) (c : Class) (n : ℕ) → head rest ≡ Lexeme c n → 1 ≤ length rest → (1 ≤ n) × (n ≤ length rest)
lexeme_bytes rest c n e l = within_head rest (Lexeme c n) e l

pub bad_bytes : (rest : List ℕ) (f : Fault) (n : ℕ) → head rest ≡ Bad f n → 1 ≤ length rest → n ≤ length rest
bad_bytes rest f n e l = within_head rest (Bad f n) e l

pub nonempty : (n : ℕ) → false ≡ (n == 0) → 1 ≤ n
nonempty zero h = cc
nonempty (suc n) h = omega arith

pub shorter : (rest after : List ℕ) (n : ℕ) → 1 ≤ n → n ≤ length rest → after ≡ drop n rest → length after < length rest
shorter rest after n a b e = omega (arith, a, b, ap length e, length-drop n rest)

pub read_start : (source : List ℕ) → HasRead source [] source 0
read_start source = record { pieces = []; leads = refl; are = refl; passed = refl; whole = omega arith; order = omega arith }

pub read_gap : (source rest after : List ℕ) (ts : List Token) (at n next : ℕ) → HasRead source ts rest at → head rest ≡ Between n → 1 ≤ length rest → after ≡ drop n rest → next ≡ at + n → HasRead source ts after next
read_gap source rest after ts at n next r e l a x =
    let w = between_bytes rest n e l in
    record {
      pieces = r.pieces ++ Gap n ∷ [];
      leads = leads_on source rest after r.pieces (Gap n ∷ []) r.leads (e, sym a);
      are = r.are ∙ sym (more_gap 0 r.pieces n);
      passed = omega (arith, x, r.passed, more_bytes r.pieces (Gap n));
      whole = omega (arith, x, r.whole, w.1, ap length a, length-drop n rest);
      order = order_later 0 at next ts r.order (omega (arith, x));
    }

pub read_text : (source rest after : List ℕ) (ts : List Token) (c : Class) (at n next : ℕ) → HasRead source ts rest at → head rest ≡ Lexeme c n → 1 ≤ length rest → after ≡ drop n rest → next ≡ at + n
    → HasRead source (ts ++ record { class = c; start = at; end = next } ∷ []) after next
read_text source rest after ts c at n next r e l a x =
    let w = lexeme_bytes rest c n e l in
    record {
      pieces = r.pieces ++ Text c n ∷ [];
      leads = leads_on source rest after r.pieces (Text c n ∷ []) r.leads (e, sym a);
      are = ap (λ k. ts ++ token_at c at k ∷ []) x ∙ ap (λ k. ts ++ token_at c k (k + n) ∷ []) r.passed ∙ ap (λ us. us ++ token_at c (bytes_in r.pieces) (bytes_in r.pieces + n) ∷ []) r.are ∙ sym (more_first r.pieces c n);
      passed = omega (arith, x, r.passed, more_bytes r.pieces (Text c n));
      whole = omega (arith, x, r.whole, w.1, ap length a, length-drop n rest);
      order = order_more 0 at next ts c r.order (omega (arith, x, w.0));
    }

pub read_whole : (source rest : List ℕ) (ts : List Token) (at : ℕ) → HasRead source ts rest at → length rest ≡ 0 → AreTokens source ts
read_whole source [] ts at r e = record { pieces = r.pieces; leads = r.leads; are = r.are }
read_whole source (b ∷ bs) ts at r e = absurd (omega arith)

pub read_order : (source rest : List ℕ) (ts : List Token) (at : ℕ) → HasRead source ts rest at → length rest ≡ 0 → AreInOrder 0 (length source) ts
read_order source rest ts at r e = order_later 0 at (length source) ts r.order (omega (arith, r.whole))

pub read_bad : (source rest : List ℕ) (ts : List Token) (f : Fault) (at n place : ℕ) → HasRead source ts rest at → head rest ≡ Bad f n → place ≡ at + n → IsRefused source f place
read_bad source rest ts f at n place r e x = record { pieces = r.pieces; rest = rest; offset = n; leads = r.leads; bad = e; at = omega (arith, x, r.passed) }

pub ruleset lexing = (read_start, read_gap, read_text, read_whole, read_order, read_bad)
