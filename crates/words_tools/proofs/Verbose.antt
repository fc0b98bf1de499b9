-- No order of a tool asks for the second line of messages.
use Rattle.std.proofs.Common.{◌≡◌, List, false, Option, Some, None, sym, subst}
use Rattle.std.specs.Prelude.{IfSome}
use Rattle.words_orders.specs.declared.answers.Answer.{Answer}
use Rattle.words_orders.specs.declared.order.Order.{Order}
use Rattle.words_tools.specs.declared.mkbootimg.Image.{Image}
use Rattle.words_tools.specs.declared.orders.Orders.{Orders}
use Rattle.words_tools.specs.declared.tools.Tool.{Tool}
use Rattle.words_tools.specs.declared.tools.Tool.TheVariants as tools
use Rattle.words_tools.specs.Tools.{AsksAlone, AsksOrders, PacksAsked}

abbrev IsPlain : Option Order → Type 0
IsPlain order = IfSome order (λ o. o.is_verbose ≡ false)

none_plain : (order : Option Order) → order ≡ None → IsPlain order
none_plain order is = let none : IsPlain None = tt in subst IsPlain (sym is) none

alone_plain : (tool : Tool) (all : List Answer) (orders : Orders) → AsksAlone tool all orders
    → IsPlain orders.first × IsPlain orders.second
alone_plain tool all orders is =
    let one : IsPlain (Some is.order) = is.is_tools.verbose in
    (subst IsPlain (sym is.first) one, none_plain orders.second is.second)

packed_plain : (all said : List Answer) (image : Option Image) (order : Option Order) → PacksAsked all said image order
    → IsPlain order
packed_plain all said None None is = tt
packed_plain all said (Some image) (Some order) is = is.order_is.verbose
packed_plain all said None (Some order) is = absurd is
packed_plain all said (Some image) None is = tt

pub not_verbose : (tool : Tool) (all said : List Answer) (orders : Orders) → AsksOrders tool all said orders
    → IfSome orders.first (λ o. o.is_verbose ≡ false) × IfSome orders.second (λ o. o.is_verbose ≡ false)
not_verbose tools.Simg2img all said orders is = alone_plain tools.Simg2img all orders is
not_verbose tools.Img2simg all said orders is = alone_plain tools.Img2simg all orders is
not_verbose tools.Simg2simg all said orders is = alone_plain tools.Simg2simg all orders is
not_verbose tools.Mkbootimg all said orders is =
    (packed_plain all said is.vendor orders.first is.first, packed_plain all said is.boot orders.second is.second)
not_verbose tools.UnpackBootimg all said orders is =
    (none_plain orders.first is.first, none_plain orders.second is.second)
not_verbose tools.Append2simg all said orders is = absurd is
not_verbose tools.SimgDump all said orders is = absurd is
