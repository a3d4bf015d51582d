use Rattle.std.proofs.Common.{[], ◌∷◌, ◌++◌, length, take, get_or, sym, ap, ◌∙◌, arith}
use Rattle.std.proofs.lemmas.List.{take_more, flat_map_more}
use Rattle.std.proofs.lemmas.List.Folds.{length-flat_map-take}
use Rattle.frames.specs.declared.field.Field.TheVariants.{Byte}
use Rattle.frames.specs.Fields.{spell_field, spelled}
use Rattle.frames.proofs.write.coded.Goals as goal

pub push_field-requires : goal.push_field-requires
push_field-requires c =
    omega (arith, ap length c.loop-field.invariant, length-flat_map-take spell_field c.args.fields.now c.loop-field.field-index (Byte 0) c.loop-field-test.true)

pub loop-field-preserved : goal.loop-field-preserved
loop-field-preserved c =
    let fields = c.args.fields.now in
    let i = c.loop-field.field-index in
    let field = get_or fields i (Byte 0) in
    c.push_field.ensures ∙ ap (λ l. l ++ spell_field field) c.loop-field.invariant ∙ flat_map_more spell_field (c.args.code ∷ []) (take i fields) field
    ∙ ap (λ fs. c.args.code ∷ spelled fs) (sym (take_more fields i (Byte 0) c.loop-field-test.true))
