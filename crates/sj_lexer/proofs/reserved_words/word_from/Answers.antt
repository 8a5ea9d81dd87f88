use Rattle.std.proofs.Common.{refl, ap, ◌∷◌, ◌∙◌, codes}
use Rattle.sj_lexer.proofs.Tables.{longer_or, word_at, word_begins}
use Rattle.sj_lexer.proofs.reserved_words.word_from.Goals as goal

pub returns-in-97 : goal.returns-in-97
returns-in-97 c =
    let e = c.requires ∙ ap (λ b. b ∷ c.args.rest.now) c.in-97.is in
    word_begins e (longer_or _ _ _ (word_at (codes "abort") _ _ e c.word_or-in-97.ensures) refl (longer_or _ _ _ (word_at (codes "await") _ _ e c.word_or.ensures) refl refl))

pub returns-in-98 : goal.returns-in-98
returns-in-98 c =
    let e = c.requires ∙ ap (λ b. b ∷ c.args.rest.now) c.in-98.is in
    word_begins e (longer_or _ _ _ (word_at (codes "boolean") _ _ e c.word_or-in-98-2.ensures) refl (longer_or _ _ _ (word_at (codes "byte") _ _ e c.word_or-in-98.ensures) refl refl))

pub returns-in-99 : goal.returns-in-99
returns-in-99 c =
    let e = c.requires ∙ ap (λ b. b ∷ c.args.rest.now) c.in-99.is in
    word_begins e (longer_or _ _ _ (word_at (codes "channel") _ _ e c.word_or-in-99-3.ensures) refl (longer_or _ _ _ (word_at (codes "combine") _ _ e c.word_or-in-99-2.ensures) refl (longer_or _ _ _ (word_at (codes "char") _ _ e c.word_or-in-99.ensures) refl refl)))

pub returns-in-101 : goal.returns-in-101
returns-in-101 c =
    let e = c.requires ∙ ap (λ b. b ∷ c.args.rest.now) c.in-101.is in
    word_begins e (longer_or _ _ _ (word_at (codes "emit") _ _ e c.word_or-in-101-5.ensures) refl (longer_or _ _ _ (word_at (codes "else") _ _ e c.word_or-in-101-4.ensures) refl (longer_or _ _ _ (word_at (codes "exit") _ _ e c.word_or-in-101-3.ensures) refl (longer_or _ _ _ (word_at (codes "every") _ _ e c.word_or-in-101-2.ensures) refl (longer_or _ _ _ (word_at (codes "each") _ _ e c.word_or-in-101.ensures) refl refl)))))

pub returns-in-102 : goal.returns-in-102
returns-in-102 c =
    let e = c.requires ∙ ap (λ b. b ∷ c.args.rest.now) c.in-102.is in
    word_begins e (longer_or _ _ _ (word_at (codes "false") _ _ e c.word_or-in-102.ensures) refl refl)

pub returns-in-104 : goal.returns-in-104
returns-in-104 c =
    let e = c.requires ∙ ap (λ b. b ∷ c.args.rest.now) c.in-104.is in
    word_begins e (longer_or _ _ _ (word_at (codes "halt") _ _ e c.word_or-in-104.ensures) refl refl)

pub returns-in-105 : goal.returns-in-105
returns-in-105 c =
    let e = c.requires ∙ ap (λ b. b ∷ c.args.rest.now) c.in-105.is in
    word_begins e (longer_or _ _ _ (word_at (codes "interface") _ _ e c.word_or-in-105-5.ensures) refl (longer_or _ _ _ (word_at (codes "input") _ _ e c.word_or-in-105-4.ensures) refl (longer_or _ _ _ (word_at (codes "int") _ _ e c.word_or-in-105-3.ensures) refl (longer_or _ _ _ (word_at (codes "if") _ _ e c.word_or-in-105-2.ensures) refl (longer_or _ _ _ (word_at (codes "immediate") _ _ e c.word_or-in-105.ensures) refl refl)))))

pub returns-in-108 : goal.returns-in-108
returns-in-108 c =
    let e = c.requires ∙ ap (λ b. b ∷ c.args.rest.now) c.in-108.is in
    word_begins e (longer_or _ _ _ (word_at (codes "long") _ _ e c.word_or-in-108-2.ensures) refl (longer_or _ _ _ (word_at (codes "loop") _ _ e c.word_or-in-108.ensures) refl refl))

pub returns-in-109 : goal.returns-in-109
returns-in-109 c =
    let e = c.requires ∙ ap (λ b. b ∷ c.args.rest.now) c.in-109.is in
    word_begins e (longer_or _ _ _ (word_at (codes "max") _ _ e c.word_or-in-109-2.ensures) refl (longer_or _ _ _ (word_at (codes "min") _ _ e c.word_or-in-109.ensures) refl refl))

pub returns-in-111 : goal.returns-in-111
returns-in-111 c =
    let e = c.requires ∙ ap (λ b. b ∷ c.args.rest.now) c.in-111.is in
    word_begins e (longer_or _ _ _ (word_at (codes "output") _ _ e c.word_or-in-111.ensures) refl refl)

pub returns-in-112 : goal.returns-in-112
returns-in-112 c =
    let e = c.requires ∙ ap (λ b. b ∷ c.args.rest.now) c.in-112.is in
    word_begins e (longer_or _ _ _ (word_at (codes "pause") _ _ e c.word_or-in-112-2.ensures) refl (longer_or _ _ _ (word_at (codes "present") _ _ e c.word_or-in-112.ensures) refl refl))

pub returns-in-114 : goal.returns-in-114
returns-in-114 c =
    let e = c.requires ∙ ap (λ b. b ∷ c.args.rest.now) c.in-114.is in
    word_begins e (longer_or _ _ _ (word_at (codes "receive") _ _ e c.word_or-in-114.ensures) refl refl)

pub returns-in-115 : goal.returns-in-115
returns-in-115 c =
    let e = c.requires ∙ ap (λ b. b ∷ c.args.rest.now) c.in-115.is in
    word_begins e (longer_or _ _ _ (word_at (codes "system") _ _ e c.word_or-in-115-6.ensures) refl (longer_or _ _ _ (word_at (codes "signal") _ _ e c.word_or-in-115-5.ensures) refl (longer_or _ _ _ (word_at (codes "short") _ _ e c.word_or-in-115-4.ensures) refl (longer_or _ _ _ (word_at (codes "sustain") _ _ e c.word_or-in-115-3.ensures) refl (longer_or _ _ _ (word_at (codes "suspend") _ _ e c.word_or-in-115-2.ensures) refl (longer_or _ _ _ (word_at (codes "send") _ _ e c.word_or-in-115.ensures) refl refl))))))

pub returns-in-116 : goal.returns-in-116
returns-in-116 c =
    let e = c.requires ∙ ap (λ b. b ∷ c.args.rest.now) c.in-116.is in
    word_begins e (longer_or _ _ _ (word_at (codes "true") _ _ e c.word_or-in-116-2.ensures) refl (longer_or _ _ _ (word_at (codes "trap") _ _ e c.word_or-in-116.ensures) refl refl))

pub returns-in-119 : goal.returns-in-119
returns-in-119 c =
    let e = c.requires ∙ ap (λ b. b ∷ c.args.rest.now) c.in-119.is in
    word_begins e (longer_or _ _ _ (word_at (codes "while") _ _ e c.word_or-in-119-2.ensures) refl (longer_or _ _ _ (word_at (codes "weak") _ _ e c.word_or-in-119.ensures) refl refl))
