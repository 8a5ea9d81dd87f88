-- What builds a copy, and two copies one behind the other.
use Rattle.std.proofs.Common.{◌≡◌, ◌≢◌, ℕ, ◌+◌, ◌<◌, ◌==◌, nat_le, nat_lt, Bool, true, false, ◌&&◌, ◌||◌, cond, List, [], ◌∷◌, ◌++◌, length, map, get_or, set, Vec, arith, refl, ap, ap₂, ◌∙◌, sym, subst, append_assoc, append-nil}
use Rattle.std.specs.Global.{Global}
use Rattle.std.proofs.lemmas.Bool.Decides.{nat_tests}
use Rattle.std.proofs.lemmas.List.{length-map, length-set, map-append, get_or-set_same, get_or-set_other}
use Rattle.surf_graph.specs.declared.builder.Builder.{Builder}
use Rattle.surf_graph.specs.declared.change.Change.{Change}
use Rattle.surf_graph.specs.declared.copy_builder.CopyBuilder.{CopyBuilder}
use Rattle.surf_graph.specs.declared.copy_builder.Guarded.{Guarded}
use Rattle.surf_graph.specs.declared.wire_tables.WireTables.{WireTables}
use Rattle.surf_graph.specs.Building.{wires_in}
use Rattle.surf_graph.specs.Copying.{SpellsOut, buckets, bucket, emits_of, sets_of, is_own, own_sets, logs, Changes, SameTables, Builds}
use Rattle.surf_graph.specs.definitions.Changes.{undone}
use Rattle.surf_graph.specs.definitions.Copies.{Copy, Emits, Sets, has, none, below, from, joined}
use Rattle.surf_graph.proofs.Parts.{by_cases}
use Rattle.surf_graph.proofs.Alternatives.{has_append}
use Rattle.surf_graph.proofs.SpellingOut.{both_spelled_out}

pub equal_if : (n m : ℕ) → (n == m) ≡ true → n ≡ m
equal_if n m h = grind (arith, nat_tests)

pub unequal_if : (n m : ℕ) → (n == m) ≡ false → n ≢ m
unequal_if n m h e = grind (arith, nat_tests)

-- one entry of a list is another
pub at_set : {X : Type 0} (l : List X) (i k : ℕ) (x d : X) → i < length l → get_or (set l i x) k d ≡ cond (k == i) x (get_or l k d)
at_set l i k x d lt =
    by_cases (k == i)
    (λ e. ap (λ j. get_or (set l i x) j d) (equal_if k i e) ∙ get_or-set_same l i x d lt ∙ ap (λ b. cond b x (get_or l k d)) (sym e))
    (λ e. get_or-set_other l i k x d (unequal_if k i e) ∙ ap (λ b. cond b x (get_or l k d)) (sym e))

-- buckets

pub count_added : (lists new : List (Vec Guarded Global)) (i : ℕ) (x : List Guarded) → buckets new ≡ set (buckets lists) i x → length new ≡ length lists
count_added lists new i x is =
    sym (length-map new (λ (v : Vec Guarded Global). v.items)) ∙ ap length is ∙ length-set (buckets lists) i x ∙ length-map lists (λ (v : Vec Guarded Global). v.items)

with_more : (l : List (List Guarded)) (i k : ℕ) (g : Guarded) (b : Bool) → (k == i) ≡ b → cond b (get_or l i [] ++ (g ∷ [])) (get_or l k []) ≡ get_or l k [] ++ cond b (g ∷ []) []
with_more l i k g true e = ap (λ j. get_or l j [] ++ (g ∷ [])) (sym (equal_if k i e))
with_more l i k g false e = sym (append-nil (get_or l k []))

pub bucket_added : (lists new : List (Vec Guarded Global)) (i : ℕ) (g : Guarded) → i < length lists → buckets new ≡ set (buckets lists) i (bucket lists i ++ (g ∷ [])) → (k : ℕ) → bucket new k ≡ bucket lists k ++ cond (k == i) (g ∷ []) []
bucket_added lists new i g lt is k =
    let count : length (buckets lists) ≡ length lists = length-map lists (λ (v : Vec Guarded Global). v.items) in
    ap (λ l. get_or l k []) is
    ∙ at_set (buckets lists) i k (bucket lists i ++ (g ∷ [])) [] (omega (arith, count, lt))
    ∙ with_more (buckets lists) i k g (k == i) refl

pub same_bucket : (lists : List (Vec Guarded Global)) (k : ℕ) → bucket lists k ≡ bucket lists k ++ []
same_bucket lists k = sym (append-nil (bucket lists k))

-- the registers of a copy

pub sets_where : (first count k : ℕ) (sets : ℕ → List Sets) (x : List Guarded) → (is_own first count k ≡ true → sets_of (sets k) ≡ x) → (is_own first count k ≡ false → [] ≡ x) → own_sets first count sets k ≡ x
sets_where first count k sets x f g =
    by_cases (is_own first count k)
    (λ e. ap (λ b. cond b (sets_of (sets k)) []) e ∙ f e)
    (λ e. ap (λ b. cond b (sets_of (sets k)) []) e ∙ g e)

pub no_sets : (first count k : ℕ) → own_sets first count none k ≡ []
no_sets first count k = sets_where first count k none [] (λ e. refl) (λ e. refl)

-- a copy that changes no variable

pub no_changes : (old new : CopyBuilder) → new.wires ≡ old.wires → new.changes ≡ old.changes → Changes old new []
no_changes old new w c = record {
  more = [];
  logged = ap (λ v. v.items) c ∙ sym (append-nil old.changes.items);
  before = λ x. ap (λ t. (wires_in t).variables x) w;
  which = λ x. refl;
}

pub same_tables : (old new : WireTables) → new ≡ old → SameTables old new
same_tables old new e = record {
  count = ap (λ t. length t.variables.items) e;
  present = ap (λ t. t.present.items) e;
  value = ap (λ t. t.value.items) e;
  last = ap (λ t. t.last.items) e;
}

-- one copy behind the other

undone_both : (cs ds : List Change) (v : ℕ → ℕ) (x : ℕ) → undone (cs ++ ds) v x ≡ undone cs (undone ds v) x
undone_both [] ds v x = refl
undone_both (c ∷ cs) ds v x = ap (λ y. cond (c.variable == x) c.before y) (undone_both cs ds v x)

undone_same : (cs : List Change) (u v : ℕ → ℕ) → ((x : ℕ) → u x ≡ v x) → (x : ℕ) → undone cs u x ≡ undone cs v x
undone_same [] u v h x = h x
undone_same (c ∷ cs) u v h x = ap (λ y. cond (c.variable == x) c.before y) (undone_same cs u v h x)

or_more : (a b c : Bool) → a || (b || c) ≡ (a || b) || c
or_more true b c = refl
or_more false b c = refl

logs_both : (cs ds : List Change) (x : ℕ) → logs (cs ++ ds) x ≡ logs cs x || logs ds x
logs_both [] ds x = refl
logs_both (c ∷ cs) ds x = ap (λ y. (c.variable == x) || y) (logs_both cs ds x) ∙ or_more (c.variable == x) (logs cs x) (logs ds x)

changes_both : (old mid new : CopyBuilder) (xs ys : List ℕ) → Changes old mid xs → Changes mid new ys → Changes old new (xs ++ ys)
changes_both old mid new xs ys a b = record {
  more = a.more ++ b.more;
  logged = b.logged ∙ ap (λ l. l ++ b.more) a.logged ∙ append_assoc old.changes.items a.more b.more;
  before = λ x. undone_both a.more b.more (wires_in new.wires).variables x
      ∙ undone_same a.more (undone b.more (wires_in new.wires).variables) (wires_in mid.wires).variables b.before x ∙ a.before x;
  which = λ x. logs_both a.more b.more x ∙ ap₂ (λ y z. y || z) (a.which x) (b.which x) ∙ sym (has_append xs ys x);
}

pub tables_both : (old mid new : WireTables) → SameTables old mid → SameTables mid new → SameTables old new
tables_both old mid new a b = record {
  count = b.count ∙ a.count;
  present = b.present ∙ a.present;
  value = b.value ∙ a.value;
  last = b.last ∙ a.last;
}

more_where : (b : Bool) (g : Guarded) (l r : List Guarded) → cond b (g ∷ (l ++ r)) (l ++ r) ≡ cond b (g ∷ l) l ++ r
more_where true g l r = refl
more_where false g l r = refl

pub emits_both : (s : ℕ) (xs ys : List Emits) → emits_of s (xs ++ ys) ≡ emits_of s xs ++ emits_of s ys
emits_both s [] ys = refl
emits_both s (e ∷ xs) ys =
    let g : Guarded = record { condition = e.condition; value = e.value } in
    ap (λ l. cond (e.signal == s) (g ∷ l) l) (emits_both s xs ys) ∙ more_where (e.signal == s) g (emits_of s xs) (emits_of s ys)

pub sets_both : (first m n k : ℕ) (s t : ℕ → List Sets) → own_sets first m s k ++ own_sets (first + m) n t k ≡ own_sets first (m + n) (joined (below (first + m) s) (from (first + m) t)) k
sets_both first m n k s t = by_cases (nat_lt k (first + m)) front back where
  front : nat_lt k (first + m) ≡ true → own_sets first m s k ++ own_sets (first + m) n t k ≡ own_sets first (m + n) (joined (below (first + m) s) (from (first + m) t)) k
  front e =
      let other : is_own (first + m) n k ≡ false = grind (arith, nat_tests) in
      let same : is_own first m k ≡ is_own first (m + n) k = by_cases (nat_le first k)
      (λ f. (let x : is_own first m k ≡ true = grind (arith, nat_tests) in x) ∙ sym (let y : is_own first (m + n) k ≡ true = grind (arith, nat_tests) in y))
      (λ f. (let x : is_own first m k ≡ false = grind (arith, nat_tests) in x) ∙ sym (let y : is_own first (m + n) k ≡ false = grind (arith, nat_tests) in y)) in
      ap (λ b. own_sets first m s k ++ cond b (sets_of (t k)) []) other
      ∙ append-nil (own_sets first m s k)
      ∙ ap (λ b. cond b (sets_of (s k)) []) same
      ∙ ap (λ l. cond (is_own first (m + n) k) l []) (ap sets_of (sym (append-nil (s k))))
      ∙ ap (λ b. cond (is_own first (m + n) k) (sets_of (cond b (s k) [] ++ cond b [] (t k))) []) (sym e)

  back : nat_lt k (first + m) ≡ false → own_sets first m s k ++ own_sets (first + m) n t k ≡ own_sets first (m + n) (joined (below (first + m) s) (from (first + m) t)) k
  back e =
      let other : is_own first m k ≡ false = by_cases (nat_le first k) (λ f. ap₂ (λ x y. x && y) f e) (λ f. ap (λ x. x && nat_lt k (first + m)) f) in
      let same : is_own (first + m) n k ≡ is_own first (m + n) k = by_cases (nat_lt k (first + (m + n)))
      (λ f. (let x : is_own (first + m) n k ≡ true = grind (arith, nat_tests) in x) ∙ sym (let y : is_own first (m + n) k ≡ true = grind (arith, nat_tests) in y))
      (λ f. (let x : is_own (first + m) n k ≡ false = grind (arith, nat_tests) in x) ∙ sym (let y : is_own first (m + n) k ≡ false = grind (arith, nat_tests) in y)) in
      ap (λ b. cond b (sets_of (s k)) [] ++ own_sets (first + m) n t k) other
      ∙ ap (λ b. cond b (sets_of (t k)) []) same
      ∙ ap (λ b. cond (is_own first (m + n) k) (sets_of (cond b (s k) [] ++ cond b [] (t k))) []) (sym e)

-- both copies, of which the second has the registers from r on
abbrev pub both : ℕ → Copy → Copy → Copy
both r a b = record {
  equations = a.equations ++ b.equations;
  status = b.status;
  live = b.live;
  emits = a.emits ++ b.emits;
  variables = b.variables;
  sets = joined (below r a.sets) (from r b.sets);
  next = b.next;
}

more_behind : (x y z u v w : List Guarded) → y ≡ x ++ u → z ≡ y ++ v → u ++ v ≡ w → z ≡ x ++ w
more_behind x y z u v w a b c = b ∙ ap (λ l. l ++ v) a ∙ append_assoc x u v ∙ ap (λ l. x ++ l) c

pub both_build : (old mid new : CopyBuilder) (first m n : ℕ) (xs ys : List ℕ) (a b : Copy) → Builds old mid first m xs a → Builds mid new (first + m) n ys b → Builds old new first (m + n) (xs ++ ys) (both (first + m) a b)
both_build old mid new first m n xs ys a b g h = record {
  equations = both_spelled_out old.builder mid.builder new.builder a.equations b.equations g.equations h.equations;
  next = h.next;
  variables = h.variables;
  tables = tables_both old.wires mid.wires new.wires g.tables h.tables;
  changes = changes_both old mid new xs ys g.changes h.changes;
  signals = h.signals ∙ g.signals;
  emits = λ s. more_behind (bucket old.emits.items s) (bucket mid.emits.items s) (bucket new.emits.items s) (emits_of s a.emits) (emits_of s b.emits) (emits_of s (a.emits ++ b.emits)) (g.emits s) (h.emits s) (sym (emits_both s a.emits b.emits));
  registers = h.registers ∙ g.registers;
  sets = λ k. more_behind (bucket old.sets.items k) (bucket mid.sets.items k) (bucket new.sets.items k) (own_sets first m a.sets k) (own_sets (first + m) n b.sets k) (own_sets first (m + n) (joined (below (first + m) a.sets) (from (first + m) b.sets)) k) (g.sets k) (h.sets k) (sets_both first m n k a.sets b.sets);
}
