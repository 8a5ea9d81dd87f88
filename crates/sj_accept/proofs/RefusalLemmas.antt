-- A source is refused for one reason at most, and no accepted source is refused.
use Rattle.std.proofs.Common.{◌≡◌, ℕ, true, false, List, [], ◌∷◌, ◌++◌, length, ap, refl, sym, ◌∙◌, subst, append_assoc, append-nil, Some, None}
use Rattle.std.specs.Prelude.{Option}
use Rattle.sj_lexer.specs.declared.token.Token.{Token}
use Rattle.sj_lexer.specs.declared.head.Fault.{Fault}
use Rattle.sj_lexer.specs.declared.head.Fault.TheVariants as fault
use Rattle.sj_lexer.specs.definitions.Readings as readings
use Rattle.sj_grammar.specs.definitions.Machine.{Symbol, next, program}
use Rattle.sj_grammar.specs.definitions.Walks.{level_after, operators_after, is_too_deep}
use Rattle.sj_grammar.specs.definitions.Limits.{ReadsTo, IsDeep, IsTooDeepBehind}
use Rattle.sj_grammar.specs.definitions.Sentences.{AreProgram, BeginProgram}
use Rattle.expr_parser.specs.definitions.Longest.{IsLongest, place_of}
use Rattle.stmt_parser.specs.definitions.Parsing.{IsTreeOf, IsRefused, IsTooDeep, SyntaxAt, TooDeepAt}
use Rattle.sj_names.specs.declared.failure.Failure.{Failure}
use Rattle.sj_names.specs.definitions.Mentions.{names_of_tree}
use Rattle.sj_names.specs.definitions.Failures.{failures_of, IsLeast}
use Rattle.sj_accept.specs.declared.refusal.Refusal.{Refusal}
use Rattle.sj_accept.specs.declared.refusal.Refusal.TheVariants as refusal
use Rattle.java_types.specs.declared.failure.TypeFailure.{TypeFailure}
use Rattle.java_types.specs.definitions.Checks.{first_of}
use Rattle.sj_grammar.specs.definitions.SourceTrees.{SourceTree}
use Rattle.sj_accept.specs.definitions.Sources.{IsParsed}
use Rattle.sj_accept.specs.definitions.Kinds.{kind_failures}
use Rattle.sj_accept.specs.definitions.Accepted.{IsAccepted}
use Rattle.sj_accept.specs.definitions.Refusals.{IsUnaccepted, IsRefusedFor}
use Rattle.sj_accept.proofs.FailureLemmas.{one_least, none_is_least}

-- two ways to cut one list

data Cuts (xs ys us vs : List Token) : Type 0 where
  Same : xs ≡ us → ys ≡ vs → Cuts xs ys us vs
  Before : (t : Token) (more : List Token) → us ≡ xs ++ t ∷ more → ys ≡ t ∷ (more ++ vs) → Cuts xs ys us vs
  Behind : (t : Token) (more : List Token) → xs ≡ us ++ t ∷ more → vs ≡ t ∷ (more ++ ys) → Cuts xs ys us vs

cut_more : (x u : Token) (xs ys us vs : List Token) → x ≡ u → Cuts xs ys us vs → Cuts (x ∷ xs) ys (u ∷ us) vs
cut_more x u xs ys us vs e (Same a b) = Same (ap (λ y. y ∷ xs) e ∙ ap (λ l. u ∷ l) a) b
cut_more x u xs ys us vs e (Before t more a b) = Before t more (ap (λ l. u ∷ l) a ∙ ap (λ y. y ∷ (xs ++ t ∷ more)) (sym e)) b
cut_more x u xs ys us vs e (Behind t more a b) = Behind t more (ap (λ l. x ∷ l) a ∙ ap (λ y. y ∷ (us ++ t ∷ more)) e) b

cuts : (xs ys us vs : List Token) → xs ++ ys ≡ us ++ vs → Cuts xs ys us vs
cuts [] ys [] vs h = Same refl h
cuts [] ys (u ∷ us) vs h = Before u us refl h
cuts (x ∷ xs) ys [] vs h = Behind x xs refl (sym h)
cuts (x ∷ xs) ys (u ∷ us) vs h = cut_more x u xs ys us vs (cc) (cuts xs ys us vs (cc))

-- what begins a program
shorter_begins : (run more : List Token) → BeginProgram (run ++ more) → BeginProgram run
shorter_begins run more b = record { more = more ++ b.more; whole = subst AreProgram (append_assoc run more b.more) b.whole }

one_more : (run : List Token) (t : Token) (more : List Token) → run ++ t ∷ more ≡ (run ++ t ∷ []) ++ more
one_more run t more = sym (append_assoc run (t ∷ []) more)

longest_is_longest : (run rest longer : List Token) (t : Token) (more : List Token) → IsLongest BeginProgram run rest → rest ≡ t ∷ more → (left : List Token) → longer ≡ run ++ t ∷ left → BeginProgram longer → ⊥
longest_is_longest run rest longer t more l e left h b = l.ends t more e (shorter_begins (run ++ t ∷ []) left (subst BeginProgram (h ∙ one_more run t left) b))

next_once : (o : Option (List Symbol)) (i j : List Symbol) → o ≡ Some i → o ≡ Some j → i ≡ j
next_once o i j g h = once i j (sym g ∙ h)
  where
    once : (i j : List Symbol) → Some i ≡ Some j → i ≡ j
    once i j h = cc

-- a walk over one list goes one way
walks_agree : (P : List Symbol → ℕ → ℕ → Type 0) (k : List Symbol) (d n : ℕ) (shorter more rest after : List Token) (token : Token) → more ++ rest ≡ after → ReadsTo P k d n (shorter ++ token ∷ more) rest → ReadsTo (IsDeep token after) k d n shorter (token ∷ after) → ⊥
walks_agree P k d n [] more rest after token e r s = stop r.0 s.left (same r.0 s.left (sym r.1 ∙ s.next_is)) r.2 s.deep
  where
    same : (x y : List Symbol) → Some x ≡ Some y → x ≡ y
    same x y h = cc

    apart : false ≡ true → ⊥
    apart h = cc

    stop : (x y : List Symbol) → x ≡ y → is_too_deep d n token.class x (more ++ rest) ≡ false → is_too_deep d n token.class y after ≡ true → ⊥
    stop x y h a b = apart (sym a ∙ ap (λ z. is_too_deep d n token.class z (more ++ rest)) h ∙ ap (λ l. is_too_deep d n token.class y l) e ∙ b)
walks_agree P k d n (t ∷ ts) more rest after token e r s =
    let l : (ts ++ token ∷ more) ++ rest ≡ ts ++ token ∷ after = append_assoc ts (token ∷ more) rest ∙ ap (λ x. ts ++ token ∷ x) e in
    let j : r.0 ≡ s.0 = next_once (next k t.class) r.0 s.0 r.1 s.1 in
    walks_agree P s.0 (level_after d t.class) (operators_after n t.class s.0 (ts ++ token ∷ after)) ts more rest after token e
    (subst (λ x. ReadsTo P s.0 (level_after d t.class) (operators_after n t.class s.0 x) (ts ++ token ∷ more) rest) l (subst (λ x. ReadsTo P x (level_after d t.class) (operators_after n t.class x ((ts ++ token ∷ more) ++ rest)) (ts ++ token ∷ more) rest) j r.3)) s.3

-- a program is neither refused nor too deep

whole_begins : (tokens : List Token) → AreProgram tokens → BeginProgram tokens
whole_begins tokens w = record { more = []; whole = subst AreProgram (sym (append-nil tokens)) w }

no_syntax : (tokens run rest : List Token) → AreProgram tokens → IsRefused tokens run rest → ⊥
no_syntax tokens run [] w r = r.none refl (subst AreProgram (r.is ∙ append-nil run) w)
no_syntax tokens run (t ∷ more) w r = longest_is_longest run (t ∷ more) tokens t more r.longest refl more r.is (whole_begins tokens w)

tree_is_program : (source : List ℕ) (tokens : List Token) (tree : SourceTree) → IsTreeOf source tokens tree → AreProgram tokens
tree_is_program source tokens tree t = record { tree = t.sentence; is_program = t.is_program; printed = t.printed }

tree_no_syntax : (source : List ℕ) (tokens : List Token) (tree : SourceTree) (at : ℕ) → IsTreeOf source tokens tree → SyntaxAt source tokens at → ⊥
tree_no_syntax source tokens tree at t s = no_syntax tokens s.run s.rest (tree_is_program source tokens tree t) s.refused

-- no run goes beyond a token that is too deep
deep_first : (P : List Symbol → ℕ → ℕ → Type 0) (run rest short after more : List Token) (token t : Token) → run ≡ short ++ t ∷ more → token ∷ after ≡ t ∷ (more ++ rest) → ReadsTo P program 0 0 run rest → IsTooDeepBehind program 0 0 short token after → ⊥
deep_first P run rest short after more token t a b r d = walks_agree P program 0 0 short more rest after token (sym (tails b)) (subst (λ x. ReadsTo P program 0 0 (short ++ x ∷ more) rest) (sym (heads b)) (subst (λ l. ReadsTo P program 0 0 l rest) a r)) d.reads
  where
    heads : token ∷ after ≡ t ∷ (more ++ rest) → token ≡ t
    heads h = cc

    tails : token ∷ after ≡ t ∷ (more ++ rest) → after ≡ more ++ rest
    tails h = cc

abbrev Any : List Symbol → ℕ → ℕ → Type 0
Any j e m = Unit {0}

tree_not_deep : (source : List ℕ) (tokens : List Token) (tree : SourceTree) (at : ℕ) → IsTreeOf source tokens tree → TooDeepAt source tokens at → ⊥
tree_not_deep source tokens tree at t s =
    deep_first Any tokens [] s.run s.refused.after s.refused.after s.refused.token s.refused.token (s.refused.is ∙ ap (λ l. s.run ++ l) s.refused.at) (ap (λ l. s.refused.token ∷ l) (sym (append-nil s.refused.after))) (t.within).reads s.refused.deep

-- one place

same_syntax : (source : List ℕ) (tokens : List Token) (at place : ℕ) → SyntaxAt source tokens at → SyntaxAt source tokens place → at ≡ place
same_syntax source tokens at place s u = by (cuts s.run s.rest u.run u.rest (sym s.refused.is ∙ u.refused.is))
  where
    by : Cuts s.run s.rest u.run u.rest → at ≡ place
    by (Same a b) = s.place_is ∙ ap (λ l. place_of l (length source)) b ∙ sym u.place_is
    by (Before t more a b) = absurd (longest_is_longest s.run s.rest u.run t (more ++ u.rest) s.refused.longest b more a u.refused.longest.begins)
    by (Behind t more a b) = absurd (longest_is_longest u.run u.rest s.run t (more ++ s.rest) u.refused.longest b more a s.refused.longest.begins)

syntax_not_deep : (source : List ℕ) (tokens : List Token) (at place : ℕ) → SyntaxAt source tokens at → TooDeepAt source tokens place → ⊥
syntax_not_deep source tokens at place s u = by (cuts s.run s.rest u.run u.rest (sym s.refused.is ∙ u.refused.is))
  where
    begins : BeginProgram (u.run ++ u.refused.token ∷ [])
    begins = u.refused.begins

    by : Cuts s.run s.rest u.run u.rest → ⊥
    by (Same a b) = longest_is_longest s.run s.rest (u.run ++ u.refused.token ∷ []) u.refused.token u.refused.after s.refused.longest (b ∙ u.refused.at) [] (ap (λ l. l ++ u.refused.token ∷ []) (sym a)) begins
    by (Before t more a b) = longest_is_longest s.run s.rest (u.run ++ u.refused.token ∷ []) t (more ++ u.rest) s.refused.longest b (more ++ u.refused.token ∷ []) (ap (λ l. l ++ u.refused.token ∷ []) a ∙ append_assoc s.run (t ∷ more) (u.refused.token ∷ [])) begins
    by (Behind t more a b) = deep_first Any s.run s.rest u.run u.refused.after more u.refused.token t a (sym u.refused.at ∙ b) (s.refused.within).reads u.refused.deep

same_deep : (source : List ℕ) (tokens : List Token) (at place : ℕ) → TooDeepAt source tokens at → TooDeepAt source tokens place → at ≡ place
same_deep source tokens at place s u = by (cuts s.run s.rest u.run u.rest (sym s.refused.is ∙ u.refused.is))
  where
    beyond : (run rest : List Token) (a : IsTooDeep tokens run rest) (short : List Token) (left : List Token) (b : IsTooDeep tokens short left) (t : Token) (more : List Token) → run ≡ short ++ t ∷ more → left ≡ t ∷ (more ++ rest) → ⊥
    beyond run rest a short left b t more e h =
        deep_first (IsDeep a.token a.after) run (a.token ∷ a.after) short b.after more b.token t e (sym b.at ∙ h ∙ ap (λ l. t ∷ (more ++ l)) a.at) (a.deep).reads b.deep

    by : Cuts s.run s.rest u.run u.rest → at ≡ place
    by (Same a b) = s.place_is ∙ ap (λ l. place_of l (length source)) b ∙ sym u.place_is
    by (Before t more a b) = absurd (beyond u.run u.rest u.refused s.run s.rest s.refused t more a b)
    by (Behind t more a b) = absurd (beyond s.run s.rest s.refused u.run u.rest u.refused t more a b)

-- what the laws of the lexer and the grammar give

abbrev OneReading : Type 0
OneReading = (source : List ℕ) (ts us : List Token) → readings.AreTokens source ts → readings.AreTokens source us → ts ≡ us

abbrev EitherReading : Type 0
EitherReading = (source : List ℕ) (ts : List Token) (reason : Fault) (at : ℕ) → readings.AreTokens source ts → readings.IsRefused source reason at → ⊥

abbrev OneFault : Type 0
OneFault = (source : List ℕ) (f g : Fault) (at place : ℕ) → readings.IsRefused source f at → readings.IsRefused source g place → (f ≡ g) × (at ≡ place)

abbrev OneTree : Type 0
OneTree = (source : List ℕ) (t u : SourceTree) → IsParsed source t → IsParsed source u → t ≡ u

pub record Laws : Type 0 where
  pub tokens : OneReading
  pub either : EitherReading
  pub fault : OneFault
  pub tree : OneTree

-- a source with tokens
at_tokens : (l : Laws) (source : List ℕ) (ts us : List Token) (place : ℕ) → readings.AreTokens source ts → readings.AreTokens source us → SyntaxAt source us place → SyntaxAt source ts place
at_tokens l source ts us place a b s = subst (λ x. SyntaxAt source x place) (l.tokens source us ts b a) s

deep_at_tokens : (l : Laws) (source : List ℕ) (ts us : List Token) (place : ℕ) → readings.AreTokens source ts → readings.AreTokens source us → TooDeepAt source us place → TooDeepAt source ts place
deep_at_tokens l source ts us place a b s = subst (λ x. TooDeepAt source x place) (l.tokens source us ts b a) s

-- one refusal

one_fault : (l : Laws) (source : List ℕ) (f g : Fault) (at place : ℕ) (P : Fault → ℕ → Refusal) → readings.IsRefused source f at → readings.IsRefused source g place → P f at ≡ P g place
one_fault l source f g at place P a b = let h = l.fault source f g at place a b in ap (λ x. P x at) h.0 ∙ ap (P g) h.1

of_fault : Fault → ℕ → Refusal
of_fault fault.BadByte at = refusal.BadByte at
of_fault fault.BadNumber at = refusal.BadNumber at
of_fault fault.OpenComment at = refusal.OpenComment at

-- what a refusal tells of the tokens and of the tree
data Told (source : List ℕ) (r : Refusal) : Type 0 where
  ByFault : (f : Fault) (at : ℕ) → readings.IsRefused source f at → of_fault f at ≡ r → Told source r
  BySyntax : (tokens : List Token) (at : ℕ) → readings.AreTokens source tokens → SyntaxAt source tokens at → refusal.Syntax at ≡ r → Told source r
  ByDepth : (tokens : List Token) (at : ℕ) → readings.AreTokens source tokens → TooDeepAt source tokens at → refusal.TooDeep at ≡ r → Told source r
  ByName : (tree : SourceTree) (f : Failure) → IsParsed source tree → IsLeast (failures_of (names_of_tree tree)) f → refusal.Names f ≡ r → Told source r
  ByKind : (tree : SourceTree) (f : TypeFailure) → IsParsed source tree → failures_of (names_of_tree tree) ≡ [] → first_of (kind_failures tree) ≡ Some f → refusal.Kinds f ≡ r → Told source r
  ByTree : (tree : SourceTree) → IsParsed source tree → failures_of (names_of_tree tree) ≡ [] → kind_failures tree ≡ [] → refusal.Later ≡ r → Told source r

told : (source : List ℕ) (r : Refusal) → IsRefusedFor source r → Told source r
unfolding of_fault
told source (refusal.BadByte at) h = ByFault fault.BadByte at h refl
told source (refusal.BadNumber at) h = ByFault fault.BadNumber at h refl
told source (refusal.OpenComment at) h = ByFault fault.OpenComment at h refl
told source (refusal.Syntax at) h = BySyntax h.tokens at h.are h.at refl
told source (refusal.TooDeep at) h = ByDepth h.tokens at h.are h.at refl
told source (refusal.Names f) h = ByName h.tree f h.parsed h.least refl
told source (refusal.Kinds f) h = ByKind h.tree f h.parsed h.named h.first refl
told source refusal.Later h = ByTree h.tree h.parsed h.named h.typed refl

-- the names of one tree

one_name : (l : Laws) (source : List ℕ) (t u : SourceTree) (f g : Failure) → IsParsed source t → IsParsed source u → IsLeast (failures_of (names_of_tree t)) f → IsLeast (failures_of (names_of_tree u)) g → f ≡ g
one_name l source t u f g a b c d = one_least (failures_of (names_of_tree t)) f g c (subst (λ x. IsLeast (failures_of (names_of_tree x)) g) (l.tree source u t b a) d)

name_or_none : (l : Laws) (source : List ℕ) (t u : SourceTree) (f : Failure) → IsParsed source t → IsParsed source u → IsLeast (failures_of (names_of_tree t)) f → failures_of (names_of_tree u) ≡ [] → ⊥
name_or_none l source t u f a b c n = none_is_least (failures_of (names_of_tree t)) f (ap (λ x. failures_of (names_of_tree x)) (l.tree source t u a b) ∙ n) c

-- the kinds of one tree

one_kind : (l : Laws) (source : List ℕ) (t u : SourceTree) (f g : TypeFailure) → IsParsed source t → IsParsed source u → first_of (kind_failures t) ≡ Some f → first_of (kind_failures u) ≡ Some g → f ≡ g
one_kind l source t u f g a b c d = same (sym c ∙ ap (λ x. first_of (kind_failures x)) (l.tree source t u a b) ∙ d)
  where
    same : Some f ≡ Some g → f ≡ g
    same h = cc

kind_or_none : (l : Laws) (source : List ℕ) (t u : SourceTree) (f : TypeFailure) → IsParsed source t → IsParsed source u → first_of (kind_failures t) ≡ Some f → kind_failures u ≡ [] → ⊥
kind_or_none l source t u f a b c n = apart (sym c ∙ ap (λ x. first_of (kind_failures x)) (l.tree source t u a b) ∙ ap first_of n)
  where
    apart : Some f ≡ None → ⊥
    apart h = cc

one_told : (l : Laws) (source : List ℕ) (r s : Refusal) → Told source r → Told source s → r ≡ s
one_told l source r s (ByFault f at a e) (ByFault g place b h) = sym e ∙ one_fault l source f g at place of_fault a b ∙ h
one_told l source r s (ByFault f at a e) (BySyntax ts place b d h) = absurd (l.either source ts f at b a)
one_told l source r s (ByFault f at a e) (ByDepth ts place b d h) = absurd (l.either source ts f at b a)
one_told l source r s (ByFault f at a e) (ByName t g b d h) = absurd (l.either source b.tokens f at b.are a)
one_told l source r s (ByFault f at a e) (ByKind t g b n d h) = absurd (l.either source b.tokens f at b.are a)
one_told l source r s (ByFault f at a e) (ByTree t b n m h) = absurd (l.either source b.tokens f at b.are a)
one_told l source r s (BySyntax ts at a c e) (ByFault g place b h) = absurd (l.either source ts g place a b)
one_told l source r s (BySyntax ts at a c e) (BySyntax us place b d h) = sym e ∙ ap refusal.Syntax (same_syntax source ts at place c (at_tokens l source ts us place a b d)) ∙ h
one_told l source r s (BySyntax ts at a c e) (ByDepth us place b d h) = absurd (syntax_not_deep source ts at place c (deep_at_tokens l source ts us place a b d))
one_told l source r s (BySyntax ts at a c e) (ByName t g b d h) = absurd (tree_no_syntax source b.tokens t at b.parsed (at_tokens l source b.tokens ts at b.are a c))
one_told l source r s (BySyntax ts at a c e) (ByKind t g b n d h) = absurd (tree_no_syntax source b.tokens t at b.parsed (at_tokens l source b.tokens ts at b.are a c))
one_told l source r s (BySyntax ts at a c e) (ByTree t b n m h) = absurd (tree_no_syntax source b.tokens t at b.parsed (at_tokens l source b.tokens ts at b.are a c))
one_told l source r s (ByDepth ts at a c e) (ByFault g place b h) = absurd (l.either source ts g place a b)
one_told l source r s (ByDepth ts at a c e) (BySyntax us place b d h) = absurd (syntax_not_deep source us place at d (deep_at_tokens l source us ts at b a c))
one_told l source r s (ByDepth ts at a c e) (ByDepth us place b d h) = sym e ∙ ap refusal.TooDeep (same_deep source ts at place c (deep_at_tokens l source ts us place a b d)) ∙ h
one_told l source r s (ByDepth ts at a c e) (ByName t g b d h) = absurd (tree_not_deep source b.tokens t at b.parsed (deep_at_tokens l source b.tokens ts at b.are a c))
one_told l source r s (ByDepth ts at a c e) (ByKind t g b n d h) = absurd (tree_not_deep source b.tokens t at b.parsed (deep_at_tokens l source b.tokens ts at b.are a c))
one_told l source r s (ByDepth ts at a c e) (ByTree t b n m h) = absurd (tree_not_deep source b.tokens t at b.parsed (deep_at_tokens l source b.tokens ts at b.are a c))
one_told l source r s (ByName t f a c e) (ByFault g place b h) = absurd (l.either source a.tokens g place a.are b)
one_told l source r s (ByName t f a c e) (BySyntax us place b d h) = absurd (tree_no_syntax source a.tokens t place a.parsed (at_tokens l source a.tokens us place a.are b d))
one_told l source r s (ByName t f a c e) (ByDepth us place b d h) = absurd (tree_not_deep source a.tokens t place a.parsed (deep_at_tokens l source a.tokens us place a.are b d))
one_told l source r s (ByName t f a c e) (ByName u g b d h) = sym e ∙ ap refusal.Names (one_name l source t u f g a b c d) ∙ h
one_told l source r s (ByName t f a c e) (ByKind u g b n d h) = absurd (name_or_none l source t u f a b c n)
one_told l source r s (ByName t f a c e) (ByTree u b n m h) = absurd (name_or_none l source t u f a b c n)
one_told l source r s (ByKind t f a n c e) (ByFault g place b h) = absurd (l.either source a.tokens g place a.are b)
one_told l source r s (ByKind t f a n c e) (BySyntax us place b d h) = absurd (tree_no_syntax source a.tokens t place a.parsed (at_tokens l source a.tokens us place a.are b d))
one_told l source r s (ByKind t f a n c e) (ByDepth us place b d h) = absurd (tree_not_deep source a.tokens t place a.parsed (deep_at_tokens l source a.tokens us place a.are b d))
one_told l source r s (ByKind t f a n c e) (ByName u g b d h) = absurd (name_or_none l source u t g b a d n)
one_told l source r s (ByKind t f a n c e) (ByKind u g b m d h) = sym e ∙ ap refusal.Kinds (one_kind l source t u f g a b c d) ∙ h
one_told l source r s (ByKind t f a n c e) (ByTree u b m o h) = absurd (kind_or_none l source t u f a b c o)
one_told l source r s (ByTree t a n m e) (ByFault g place b h) = absurd (l.either source a.tokens g place a.are b)
one_told l source r s (ByTree t a n m e) (BySyntax us place b d h) = absurd (tree_no_syntax source a.tokens t place a.parsed (at_tokens l source a.tokens us place a.are b d))
one_told l source r s (ByTree t a n m e) (ByDepth us place b d h) = absurd (tree_not_deep source a.tokens t place a.parsed (deep_at_tokens l source a.tokens us place a.are b d))
one_told l source r s (ByTree t a n m e) (ByName u g b d h) = absurd (name_or_none l source u t g b a d n)
one_told l source r s (ByTree t a n m e) (ByKind u g b o d h) = absurd (kind_or_none l source u t g b a d m)
one_told l source r s (ByTree t a n m e) (ByTree u b o p h) = sym e ∙ h

pub one_refusal : Laws → (source : List ℕ) (r s : Refusal) → IsRefusedFor source r → IsRefusedFor source s → r ≡ s
one_refusal l source r s a b = one_told l source r s (told source r a) (told source s b)

-- no accepted source

tree_or_refused : (l : Laws) (source : List ℕ) (tree : SourceTree) (r : Refusal) → IsParsed source tree → failures_of (names_of_tree tree) ≡ [] → kind_failures tree ≡ [] → Told source r → refusal.Later ≡ r
tree_or_refused l source tree r p n k t = one_told l source refusal.Later r (ByTree tree p n k refl) t

pub not_accepted : Laws → (source : List ℕ) (r : Refusal) → IsRefusedFor source r → IsAccepted source → ⊥
not_accepted l source r h a = (later (subst (IsRefusedFor source) (sym (tree_or_refused l source a.source.tree r a.source.parsed a.source.named a.source.typed (told source r h))) h)).none a.program a.source
  where
    later : IsRefusedFor source refusal.Later → IsUnaccepted source
    later x = x
