-- The rules by which calls are refused, the rows that entries are held to, and how a refused entry is told.
use Rattle.std.specs.Prelude.{ℕ, Bool, cond, List, [], ◌∷◌, Some, None, Option}
use Rattle.yard.specs.declared.fault.Layer.{Layer}
use Rattle.yard.specs.declared.fault.Layer.TheVariants as layer
use Rattle.yard.specs.declared.fault.Rule.{Rule}
use Rattle.yard.specs.declared.fault.Rule.TheVariants.{LineLength, NoDigit, CheckSum, Kind, Entry, NoMast, Loose, Unkept, Room}
use Rattle.yard.specs.declared.fault.Refusal.{Refusal}
use Rattle.yard.specs.declared.fault.EntryRow.{EntryRow}
use Rattle.yard.specs.declared.fault.EntryRow.TheVariants.{PillarCount, MastNumber, NotStanding, OffGrid, NoPillar, SelfLink, TermRange}
use Rattle.yard.specs.declared.fault.EntryFault.{EntryFault}

-- the number by which each rule is told; 12 is no rule's
abbrev pub rule_number : Rule → ℕ
rule_number LineLength = 1
rule_number NoDigit = 2
rule_number CheckSum = 3
rule_number Kind = 4
rule_number (Entry PillarCount) = 5
rule_number (Entry MastNumber) = 6
rule_number (Entry NotStanding) = 7
rule_number (Entry OffGrid) = 8
rule_number (Entry NoPillar) = 9
rule_number (Entry SelfLink) = 10
rule_number (Entry TermRange) = 11
rule_number NoMast = 13
rule_number Loose = 14
rule_number Unkept = 15
rule_number Room = 16

-- the layer of each rule
abbrev pub rule_layer : Rule → Layer
rule_layer LineLength = layer.Line
rule_layer NoDigit = layer.Line
rule_layer CheckSum = layer.Frame
rule_layer Kind = layer.Frame
rule_layer (Entry r) = layer.Entry
rule_layer NoMast = layer.Placing
rule_layer Loose = layer.Placing
rule_layer Unkept = layer.Placing
rule_layer Room = layer.Memory

-- a refusal is a rule and a place: it tells the rule's number, the rule's layer, and the place
abbrev pub refusal_of : Rule → ℕ → Refusal
refusal_of r p = record { rule = r; place = p }

abbrev pub entry_refusal : EntryFault → Refusal
entry_refusal f = refusal_of (Entry f.row) f.place

-- a row as it is held to a call: whether it applies, what it says, and the field that it speaks of
pub record Held : Type 0 where
  pub applies : Bool
  pub says : EntryFault

abbrev pub held : Bool → EntryRow → ℕ → Held
held b what field = record { applies = b; says = record { row = what; place = field } }

-- the first row that applies decides
abbrev pub first_held : List Held → Option EntryFault
first_held [] = None
first_held (h ∷ hs) = cond h.applies (Some h.says) (first_held hs)
