use Rattle.std.proofs.Common.{arith}
use Rattle.journal.proofs.Few.{total_few}
use Rattle.journal.proofs.Runs.{total_told}
use Rattle.book.specs.Views.{contents_of}
use Rattle.book.proofs.Held.{sound}
use Rattle.journal.proofs.Years.{total_counts, total_nets}
use Rattle.book.proofs.book.Book.total.Goals as goal

pub returns : goal.returns
returns c =
    let ms = c.args.self.now.months in
    let fuel = c.year_figure-fuel in
    let carbonate = c.year_figure-carbonate in
    let wastewater = c.year_figure-wastewater in
    let power = c.year_figure-power_bought in
    let heat = c.year_figure-heat_bought in
    let power-sold = c.year_figure-power_sold in
    let heat-sold = c.year_figure-heat_sold in
    let count = total_counts fuel.result carbonate.result wastewater.result power.result heat.result power-sold.result heat-sold.result
    fuel.ensures.light carbonate.ensures.light wastewater.ensures.light power.ensures.light heat.ensures.light power-sold.ensures.light heat-sold.ensures.light
    ms fuel.ensures.is carbonate.ensures.is wastewater.ensures.is power.ensures.is heat.ensures.is power-sold.ensures.is heat-sold.ensures.is in
    let net = total_nets fuel.result carbonate.result wastewater.result power.result heat.result power-sold.result heat-sold.result
    fuel.ensures.light carbonate.ensures.light wastewater.ensures.light power.ensures.light heat.ensures.light power-sold.ensures.light heat-sold.ensures.light
    ms fuel.ensures.is carbonate.ensures.is wastewater.ensures.is power.ensures.is heat.ensures.is power-sold.ensures.is heat-sold.ensures.is in
    let few = total_few (contents_of c.args.self.now) (sound c.args.self.now) in
    record { count = count; net = net; few = omega (arith, count, few); told = total_told (contents_of c.args.self.now) (sound c.args.self.now) _ _ count net }
