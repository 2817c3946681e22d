pub mod FunctionNames
