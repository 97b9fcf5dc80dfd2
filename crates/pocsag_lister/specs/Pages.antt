-- How a page is listed: the kind that its text is read by, and what stands for its kind.
use Rattle.std.specs.Prelude.{ℕ, leb, eqb, Option, Some, None}
use Rattle.laws.specs.Choice.{pick}
use Rattle.pocsag.specs.declared.TextKind.{TextKind}
use Rattle.pocsag.specs.declared.TextKind.TheVariants as text_kinds
use Rattle.pocsag_lister.specs.declared.Kind.{Kind}
use Rattle.pocsag_lister.specs.declared.Kind.TheVariants as kinds

-- the kind of a page's text: the one that was chosen, and by convention numeric for function 0, seven-bit for every other
abbrev pub kind_chosen : Option TextKind → ℕ → TextKind
kind_chosen (Some kind) function = kind
kind_chosen None function = pick (eqb function 0) text_kinds.Numeric text_kinds.SevenBit

-- what the kind of a text is listed as
abbrev pub text_listed : TextKind → Kind
text_listed text_kinds.Numeric = kinds.Numeric
text_listed text_kinds.NumericChinese = kinds.Numeric
text_listed text_kinds.SevenBit = kinds.Text

-- what a page of so many message words is listed as: a tone where it has none, else by the kind of its text
abbrev pub listed_kind : TextKind → ℕ → Kind
listed_kind kind words = pick (eqb words 0) kinds.Tone (text_listed kind)

-- ---- by a number, as before: what may not change

-- the kind of a page's text: the one that was chosen, and by convention numeric for function 0, seven-bit for every other
abbrev pub kind_of : ℕ → ℕ → ℕ
kind_of chosen function = pick (leb chosen 2) chosen (pick (eqb function 0) 0 2)

-- what a page of so many message words is listed as: a tone where it has none, else by the kind of its text
abbrev pub listed_as : ℕ → ℕ → Kind
listed_as kind words = pick (eqb words 0) kinds.Tone (pick (eqb kind 2) kinds.Text kinds.Numeric)
