-- The number of a class is its place in the list of classes, at which a book has its rule.
use denote.Enum.Declared.{tag_of}
use Rattle.std.proofs.Common.{◌≡◌, ◌<◌, List, map, length, slice_index_or, refl, sym, ap, ◌∙◌, arith}
use Rattle.std.proofs.lemmas.List.{length-map}
use Rattle.transfer_rules.specs.Tables.{classes_in_order}
use Rattle.transfer_rules.specs.contracts.classes.Class.{the_type}
use Rattle.transfer_rules.specs.declared.classes.Class.{Class}
use Rattle.transfer_rules.specs.declared.classes.Class.TheVariants.{Add, Sub, And, Or, Xor, Sll, Srl, Sra, Slt, Sltu}
use Rattle.transfer_rules.specs.declared.classes.Class.TheVariants.{Equal, Mul, Mulh, Mulhsu, Mulhu, Div, Divu, Rem, Remu}

pub listed : (class : Class) → slice_index_or classes_in_order (tag_of the_type class) class ≡ class
listed Add = refl
listed Sub = refl
listed And = refl
listed Or = refl
listed Xor = refl
listed Sll = refl
listed Srl = refl
listed Sra = refl
listed Slt = refl
listed Sltu = refl
listed Equal = refl
listed Mul = refl
listed Mulh = refl
listed Mulhsu = refl
listed Mulhu = refl
listed Div = refl
listed Divu = refl
listed Rem = refl
listed Remu = refl

low : (class : Class) → tag_of the_type class < length classes_in_order
low Add = omega arith
low Sub = omega arith
low And = omega arith
low Or = omega arith
low Xor = omega arith
low Sll = omega arith
low Srl = omega arith
low Sra = omega arith
low Slt = omega arith
low Sltu = omega arith
low Equal = omega arith
low Mul = omega arith
low Mulh = omega arith
low Mulhsu = omega arith
low Mulhu = omega arith
low Div = omega arith
low Divu = omega arith
low Rem = omega arith
low Remu = omega arith

-- there is a rule at the number of each class
pub inside : {R : Type 0} (class_of : R → Class) (rules : List R) (class : Class) →
    map class_of rules ≡ classes_in_order → tag_of the_type class < length rules
inside class_of rules class in_order =
    let all : length rules ≡ length classes_in_order = sym (length-map rules class_of) ∙ ap length in_order in
    omega (arith, low class, all)
